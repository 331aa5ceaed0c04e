use Rattle.std.proofs.Common.{◌≡◌, ℕ, ◌+◌, ◌-◌, arith, refl, length, take, drop, replicate}
use Rattle.std.proofs.lemmas.List.{length-drop, length-take-le, length-replicate, drop-drop, append_assoc}
use Rattle.std.proofs.lemmas.List.Edits.{sets-eq}
use Rattle.table.proofs.word.zero.Goals as goal

pub returns : goal.returns
returns c =
    let s = c.args.start in
    let n = c.args.size in
    let w = c.args.words.now in
    let k : s + n - s ≡ n = omega arith in
    let e : length (take n (drop s w)) ≡ n = length-take-le n (drop s w) (rw (length-drop s w) (omega arith)) in
    let v = (rw (k, e) at c.fill.ensures.after (λ y p. p)) in
    let z = sets-eq (replicate n 0) w s (rw (length-replicate {A = ℕ} n 0) (omega arith)) in
    rw (k, v, z, length-replicate {A = ℕ} n 0, drop-drop n s w, append_assoc) refl
