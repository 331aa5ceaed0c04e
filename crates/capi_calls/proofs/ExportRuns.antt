-- Closed runs of writing the file of statements, on a store of two names, <a> and <b>, after three reclaims. The record of
-- statement 1 is <b> <a> <b>, of 2 <a> <b> <a>: the file has line 2 first. Every lent slice but those tried at their length
-- has more than is named, and keeps it. Assumes nothing.
use mathlib.Core.Path.{◌≡◌, refl}
use mathlib.Core.List.{List, [], ◌∷◌, ◌++◌}
use Prim.Native.Nat.{ℕ}
use lib.ListN.{replicate}
use Rattle.store.specs.Tables.{Tables, tables}
use Rattle.lines.proofs.ExportRuns.{export-definitions}
use Rattle.capi_calls.specs.Words.{if_short, filed}
use Rattle.capi_calls.specs.Calls.{export_call}

-- t statements; the word past the counters' four keeps its value
abbrev counters : ℕ → List ℕ
counters t = 2 ∷ t ∷ 8 ∷ 3 ∷ 77 ∷ []

-- an IRI's record, by its offset: the file is written without the other words
abbrev resource : ℕ → List ℕ → List ℕ
resource o rest = 9 ∷ 9 ∷ 9 ∷ 9 ∷ 9 ∷ 9 ∷ o ∷ 1 ∷ 9 ∷ 9 ∷ 9 ∷ rest

abbrev statement : ℕ → ℕ → ℕ → ℕ → List ℕ → List ℕ
statement s p o f rest = s ∷ p ∷ o ∷ 9 ∷ 9 ∷ 9 ∷ f ∷ rest

-- by the flags of the two statements, the second's object and the second name's offset
abbrev holding : ℕ → ℕ → ℕ → ℕ → Tables
holding f g o k =
    tables (resource 0 (resource k [])) (statement 2 1 2 f (statement 1 2 o g [])) (1 ∷ 2 ∷ [])
    (60 ∷ 97 ∷ 62 ∷ 0 ∷ 60 ∷ 98 ∷ 62 ∷ 0 ∷ [])

-- the lines of 1 and 2, 14 bytes each
abbrev first : List ℕ
first = 60 ∷ 98 ∷ 62 ∷ 32 ∷ 60 ∷ 97 ∷ 62 ∷ 32 ∷ 60 ∷ 98 ∷ 62 ∷ 32 ∷ 46 ∷ 10 ∷ []

abbrev second : List ℕ
second = 60 ∷ 97 ∷ 62 ∷ 32 ∷ 60 ∷ 98 ∷ 62 ∷ 32 ∷ 60 ∷ 97 ∷ 62 ∷ 32 ∷ 46 ∷ 10 ∷ []

-- n bytes for the file and k working words are lent
abbrev exports : Tables → ℕ → ℕ → ℕ × (List ℕ × (List ℕ × List ℕ))
exports m n k = export_call (counters 2) m (replicate n 8) (replicate k 7) (5 ∷ 66 ∷ [])

abbrev refused : ℕ → ℕ → ℕ → ℕ × (List ℕ × (List ℕ × List ℕ))
refused r n k = filed r (replicate n 8) (replicate k 7) (0 ∷ 66 ∷ [])

pub record Exporting : Type 0 where
  -- both live, lent just enough, and more; the first retracted, and both, with nothing lent for the file
  pub files : exports (holding 0 0 1 4) 28 2
      ∷ exports (holding 0 0 1 4) 30 3
      ∷ exports (holding 1 0 1 4) 15 2
      ∷ exports (holding 1 1 1 4) 0 3
      ∷ []
      ≡ filed 0 (second ++ first) (0 ∷ 0 ∷ []) (28 ∷ 66 ∷ [])
      ∷ filed 0 (second ++ (first ++ 8 ∷ 8 ∷ [])) (0 ∷ 0 ∷ 7 ∷ []) (28 ∷ 66 ∷ [])
      ∷ filed 0 (second ++ 8 ∷ []) (0 ∷ 0 ∷ []) (14 ∷ 66 ∷ [])
      ∷ filed 0 [] (0 ∷ 0 ∷ 7 ∷ []) (0 ∷ 66 ∷ [])
      ∷ []
  -- a byte or a word short is 11; T words are asked for though one statement is retracted
  pub spaces : exports (holding 0 0 1 4) 27 2
      ∷ exports (holding 0 0 1 4) 28 1
      ∷ exports (holding 1 0 1 4) 14 1
      ∷ []
      ≡ refused 11 27 2 ∷ refused 11 28 1 ∷ refused 11 14 1 ∷ []
  -- A flag of 2, a resource past R and an offset at B are 9, in a retracted record too, and before 11.
  pub damages : exports (holding 0 2 1 4) 28 2
      ∷ exports (holding 0 1 3 4) 28 2
      ∷ exports (holding 1 1 1 8) 28 2
      ∷ exports (holding 0 2 1 4) 0 0
      ∷ []
      ≡ refused 9 28 2 ∷ refused 9 28 2 ∷ refused 9 28 2 ∷ refused 9 0 0 ∷ []
  -- More statements than the table has are 1, before these. Counters or a reply too short are 100 before all, and leave the
  -- reply; nothing else that is lent is ever too short. No statement: nothing need be lent.
  pub others : export_call (counters 3) (holding 0 2 1 4) [] [] (5 ∷ 66 ∷ [])
      ∷ export_call (2 ∷ 3 ∷ 8 ∷ []) (holding 0 2 1 4) (8 ∷ []) (7 ∷ []) (5 ∷ 66 ∷ [])
      ∷ export_call (counters 2) (holding 0 0 1 4) (replicate 28 8) (7 ∷ 7 ∷ []) []
      ∷ export_call (counters 0) (holding 0 2 1 4) [] [] (5 ∷ [])
      ∷ []
      ≡ filed 1 [] [] (0 ∷ 66 ∷ [])
      ∷ filed 100 (8 ∷ []) (7 ∷ []) (5 ∷ 66 ∷ [])
      ∷ filed 100 (replicate 28 8) (7 ∷ 7 ∷ []) []
      ∷ filed 0 [] [] (0 ∷ [])
      ∷ []

exporting : Exporting
unfolding export-definitions export_call if_short
exporting = record {
  files = refl;
  spaces = refl;
  damages = refl;
  others = refl;
}
