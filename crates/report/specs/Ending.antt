-- The status that a program ends with (`docs/PROGRAMS.md`).
use Rattle.std.specs.Prelude.{ℕ}
use Rattle.report.specs.declared.status.Status.{Status}
use Rattle.report.specs.declared.status.Status.TheVariants.{Done, Refused, Failed}

-- 0 all done, 1 something was refused, 2 something could not be read or written
abbrev pub status_number : Status → ℕ
status_number Done = 0
status_number Refused = 1
status_number Failed = 2
