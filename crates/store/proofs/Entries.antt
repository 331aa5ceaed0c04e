-- The plain lists only grow between reclaims: a listed triple keeps its position whatever else is called. Assumes
-- nothing.
use mathlib.Core.Path.{◌≡◌, refl, ◌∙◌}
use mathlib.Core.Bool.{Bool, true, false}
use mathlib.Core.List.{List, [], ◌∷◌, ◌++◌}
use Prim.Native.Nat.{ℕ, ◌≤◌, ◌<◌}
use native.Mathlib.Omega.{arith}
use lib.ListN.{length, length-append, get_or-append}
use Rattle.store.specs.Shared.{Entry}
use Rattle.store.specs.Values.{Values}
use Rattle.store.specs.Model.{Model, Capacities, Call, entry, mark, turn, call_model, model_replies, model_after}
use Rattle.store.specs.Claims.{reclaims, reclaims_in}
use Rattle.store.proofs.Represented.{mark-length, mark-spo}
use Rattle.store.proofs.Changes.{Change, unchanged, new_name, new_entry, revived_entry, retracted_entry, new_opening}
use Rattle.store.proofs.Changes.{read_opening, reclaimed_all, change}

pub record Grown (l l' : List Entry) : Type 0 where
  pub longer : length l ≤ length l'
  pub stays : (i : ℕ) → i < length l → (entry l' i).spo ≡ (entry l i).spo

pub grown-same : (l : List Entry) → Grown l l
grown-same l = record { longer = omega arith; stays = λ i h. refl }

pub grown-trans : (a b c : List Entry) → Grown a b → Grown b c → Grown a c
grown-trans a b c G H = record {
  longer = omega (arith, G.longer, H.longer);
  stays = λ i h. H.stays i (omega (arith, G.longer)) ∙ G.stays i h;
}

grown-more : (l : List Entry) (e : Entry) → Grown l (l ++ e ∷ [])
grown-more l e = record { longer = rw length-append (omega arith); stays = λ i h. rw get_or-append }

grown-mark : (l : List Entry) (i : ℕ) (b : Bool) → Grown l (mark l i b)
grown-mark l i b = record { longer = omega (arith, mark-length l i b); stays = λ j h. mark-spo l i j b h }

grown-changed : {s : Model} {a : Call} {o : Model × Values} → Change s a o → reclaims a o.1 ≡ 0
    → Grown s.entries o.0.entries
unfolding turn
grown-changed {s} (unchanged a v p) h = grown-same s.entries
grown-changed {s} (new_name w v) h = grown-same s.entries
grown-changed {s} (new_entry f x v a b e) h = grown-more s.entries _
grown-changed {s} (revived_entry f x i v) h = grown-mark s.entries i false
grown-changed {s} (retracted_entry f x i v) h = grown-mark s.entries i true
grown-changed {s} (new_opening x v) h = grown-same s.entries
grown-changed {s} (read_opening j b) h = grown-same s.entries
grown-changed {s} reclaimed_all h = absurd (omega (arith, h))

pub grown-call : (k : Capacities) (s : Model) (a : Call) → reclaims a (call_model k s a).1 ≡ 0
    → Grown s.entries (call_model k s a).0.entries
grown-call k s a = grown-changed (change k s a)

pub grown-history : (k : Capacities) (s : Model) (a : List Call) → reclaims_in a (model_replies k s a) ≡ 0
    → Grown s.entries (model_after k s a).entries
unfolding model_after model_replies reclaims_in
grown-history k s [] h = grown-same s.entries
grown-history k s (a ∷ r) h =
    grown-trans _ _ _ (grown-call k s a (omega arith)) (grown-history k (call_model k s a).0 r (omega arith))
