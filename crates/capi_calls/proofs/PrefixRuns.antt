-- Closed runs of find with its position, and of listings by prefix, on a store of three names: <b> is 1, <ab> is 2 and
-- <a> is 3, so the index has 3, 2, 1. Every lent reply has a word more than is named, and keeps it. Assumes nothing.
use mathlib.Core.Path.{◌≡◌, refl}
use mathlib.Core.List.{List, [], ◌∷◌}
use Prim.Native.Nat.{ℕ}
use lib.ListN.{replicate}
use Rattle.store.specs.declared.Refusal.TheVariants.{Damaged}
use Rattle.store.specs.Tables.{Tables, tables}
use Rattle.store.specs.Dictionary.{find_of}
use Rattle.store.specs.Prefix.{prefix_of}
use Rattle.store.proofs.Opened.{table-definitions}
use Rattle.capi_calls.specs.Words.{counters_of, if_short, done}
use Rattle.capi_calls.specs.Calls.{find_as, prefix_as}
use Rattle.std.specs.Prelude.{Err, Ok}

-- r names, after three reclaims; the word past the counters' four keeps its value
abbrev counters : ℕ → List ℕ
counters r = r ∷ 0 ∷ 13 ∷ 3 ∷ 77 ∷ []

-- an IRI's record without statements, by its offset
abbrev resource : ℕ → List ℕ → List ℕ
resource o rest = 0 ∷ 0 ∷ 0 ∷ 0 ∷ 0 ∷ 0 ∷ o ∷ 1 ∷ 0 ∷ 0 ∷ 0 ∷ rest

abbrev holding : Tables
holding =
    tables (resource 0 (resource 4 (resource 9 []))) [] (3 ∷ 2 ∷ 1 ∷ [])
    (60 ∷ 98 ∷ 62 ∷ 0 ∷ 60 ∷ 97 ∷ 98 ∷ 62 ∷ 0 ∷ 60 ∷ 97 ∷ 62 ∷ 0 ∷ [])

abbrev finds : List ℕ → List ℕ → ℕ × List ℕ
finds name w = find_as (counters 3) w (find_of (counters_of (counters 3)) holding name)

-- the lent numbers, the result and the reply
abbrev lists : ℕ → List ℕ → List ℕ → List ℕ × (ℕ × List ℕ)
lists r prefix out =
    let a = prefix_of (counters_of (counters r)) holding prefix out in
    (a.0, prefix_as (counters r) (5 ∷ 66 ∷ []) a.1)

abbrev listed : List ℕ → ℕ → ℕ → List ℕ × (ℕ × List ℕ)
listed out r n = (out, (r, n ∷ 66 ∷ []))

pub record Listing : Type 0 where
  -- the first name, the second, the last; absent between <a> and <ab>, before all and after all; not well formed
  pub positions : finds (60 ∷ 97 ∷ 62 ∷ []) (5 ∷ 5 ∷ 66 ∷ [])
      ∷ finds (60 ∷ 97 ∷ 98 ∷ 62 ∷ []) (5 ∷ 5 ∷ 66 ∷ [])
      ∷ finds (60 ∷ 98 ∷ 62 ∷ []) (5 ∷ 5 ∷ 66 ∷ [])
      ∷ finds (60 ∷ 97 ∷ 97 ∷ 62 ∷ []) (5 ∷ 5 ∷ 66 ∷ [])
      ∷ finds (34 ∷ 34 ∷ []) (5 ∷ 5 ∷ 66 ∷ [])
      ∷ finds (60 ∷ 99 ∷ 62 ∷ []) (5 ∷ 5 ∷ 66 ∷ [])
      ∷ finds (60 ∷ 97 ∷ []) (5 ∷ 5 ∷ 66 ∷ [])
      ∷ []
      ≡ done 0 (3 ∷ 0 ∷ 66 ∷ [])
      ∷ done 0 (2 ∷ 1 ∷ 66 ∷ [])
      ∷ done 0 (1 ∷ 2 ∷ 66 ∷ [])
      ∷ done 0 (0 ∷ 1 ∷ 66 ∷ [])
      ∷ done 0 (0 ∷ 0 ∷ 66 ∷ [])
      ∷ done 0 (0 ∷ 3 ∷ 66 ∷ [])
      ∷ done 2 (0 ∷ 0 ∷ 66 ∷ [])
      ∷ []
  -- one word lent is too short
  pub short-find : finds (60 ∷ 97 ∷ 98 ∷ 62 ∷ []) (5 ∷ []) ≡ done 100 (5 ∷ [])
  -- <a begins two names: lent one word, none, three; <ab> begins itself, <c none; no byte begins every name
  pub listings : lists 3 (60 ∷ 97 ∷ []) (7 ∷ [])
      ∷ lists 3 (60 ∷ 97 ∷ []) []
      ∷ lists 3 (60 ∷ 97 ∷ []) (7 ∷ 8 ∷ 9 ∷ [])
      ∷ lists 3 (60 ∷ 97 ∷ 98 ∷ 62 ∷ []) (7 ∷ 8 ∷ 9 ∷ [])
      ∷ lists 3 (60 ∷ 99 ∷ []) (7 ∷ 8 ∷ 9 ∷ [])
      ∷ lists 3 [] (7 ∷ 8 ∷ [])
      ∷ []
      ≡ listed (3 ∷ []) 0 2
      ∷ listed [] 0 2
      ∷ listed (3 ∷ 2 ∷ 9 ∷ []) 0 2
      ∷ listed (2 ∷ 8 ∷ 9 ∷ []) 0 1
      ∷ listed (7 ∷ 8 ∷ 9 ∷ []) 0 0
      ∷ listed (3 ∷ 2 ∷ []) 0 3
      ∷ []
  -- 255 bytes that begin nothing; 256 bytes are 2; more names than capacity are 1, before these
  pub listing-refusals : lists 3 (replicate 255 60) (7 ∷ 8 ∷ [])
      ∷ lists 3 (replicate 256 60) (7 ∷ 8 ∷ [])
      ∷ lists 4 (replicate 256 60) (7 ∷ 8 ∷ [])
      ∷ lists 4 (60 ∷ []) (7 ∷ 8 ∷ [])
      ∷ []
      ≡ listed (7 ∷ 8 ∷ []) 0 0
      ∷ listed (7 ∷ 8 ∷ []) 2 0
      ∷ listed (7 ∷ 8 ∷ []) 1 0
      ∷ listed (7 ∷ 8 ∷ []) 1 0
      ∷ []
  -- damaged as answered; a reply and counters too short
  pub listings-as-answered : prefix_as (counters 3) (5 ∷ 66 ∷ []) (Err Damaged)
      ∷ prefix_as (counters 3) [] (Ok 2)
      ∷ prefix_as (3 ∷ 0 ∷ 13 ∷ []) (5 ∷ 66 ∷ []) (Ok 2)
      ∷ []
      ≡ done 9 (0 ∷ 66 ∷ []) ∷ done 100 [] ∷ done 100 (5 ∷ 66 ∷ []) ∷ []

names-by-beginning : Listing
unfolding table-definitions find_as prefix_as if_short
names-by-beginning = record {
  positions = refl;
  short-find = refl;
  listings = refl;
  listing-refusals = refl;
  listings-as-answered = refl;
}
