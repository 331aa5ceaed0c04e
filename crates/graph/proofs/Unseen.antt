-- A query does not look at live counts: on tables that differ in them alone its walk goes the same way
-- (`QueriesDoNotLook`). Assumes nothing.
use mathlib.Core.Path.{◌≡◌, refl, ◌∙◌}
use mathlib.Core.List.{List, [], ◌∷◌}
use mathlib.Core.Option.{Option, none, some}
use Prim.Native.Nat.{ℕ, zero, suc, ◌+◌}
use Rattle.store.specs.declared.Counters.{Counters}
use Rattle.store.specs.Tables.{Tables}
use Rattle.store.specs.Walk.{pick_chain}
use Rattle.store.specs.LiveClaims.{SameButLive}
use Rattle.store.proofs.LiveCounts.{same-fits, same-pickable, same-pick, same_start}
use Rattle.graph.specs.declared.QueryPattern.{QueryPattern}
use Rattle.graph.specs.declared.Level.{Level}
use Rattle.graph.specs.Query.{asked, Turn, bad, go, whole, enter, hit, tried}
use Rattle.graph.specs.Place.{Place, start, inside, finish}
use Rattle.graph.specs.Words.{Bindings}
use Rattle.graph.specs.Query.{visit, walk, begun, resume, answer_of, open_query_of, stale, next_query_of}
use Rattle.graph.specs.LiveClaims.{QueriesDoNotLook}
use Rattle.graph.proofs.Laws.{walk-ended, walk-bad, walk-go, walk-whole, walk_turn}

module _ (c : Counters) (m m' : Tables) (s : SameButLive m m') (stm : List ℕ) (ps : List QueryPattern) where
  abbrev res : List ℕ
  res = m.resources

  abbrev res' : List ℕ
  res' = m'.resources

  abbrev r : ℕ
  r = c.resources

  abbrev t : ℕ
  t = c.statements

  enter-same : (up : List Level) → enter r t res stm ps up ≡ enter r t res' stm ps up
  unfolding enter
  enter-same up =
      let x = asked stm ps up in
      rw (same-pickable c m m' s x, same-pick c m m' s x, same_start c m m' s (pick_chain res' x) x)

  tried_same : (l : Level) (up : List Level) (o : Option Bindings)
      → tried r t res stm ps l up o ≡ tried r t res' stm ps l up o
  unfolding tried
  tried_same l up none = refl
  tried_same l up (some b) = rw (enter-same (l ∷ up))

  visit-same : (l : Level) (up : List Level) → visit r t res stm ps l up ≡ visit r t res' stm ps l up
  unfolding visit hit
  visit-same l up = rw (tried_same l up (hit r t res' stm ps l up))

  walk_same : (b : ℕ) (l : Level) (up : List Level) (v : ℕ)
      → walk r t res stm ps b l up v ≡ walk r t res' stm ps b l up v
  walk_same zero l up v = unfold walk in refl
  walk_same (suc b) l up v =
      walk_turn r t res' stm ps l up v (λ a. walk r t res stm ps (suc b) l up v ≡ a) b
      (λ e. walk-ended r t res stm ps l up v b e)
      (λ n top e d. walk-bad r t res stm ps l up v b n top e (visit-same n top ∙ d))
      (λ n top n' top' e d.
      walk-go r t res stm ps l up v b n top n' top' e (visit-same n top ∙ d) ∙ walk_same b n' top' (v + 1))
      (λ n top y n' top' e d. walk-whole r t res stm ps l up v b n top y n' top' e (visit-same n top ∙ d))

  begun-same : (b : ℕ) (z : Turn) → begun r t res stm ps b z ≡ begun r t res' stm ps b z
  unfolding begun
  begun-same b bad = refl
  begun-same b (go l up) = walk_same b l up 0
  begun-same b (whole y l up) = refl

  resume-same : (q : Place) (b : ℕ) → resume r t res stm ps q b ≡ resume r t res' stm ps q b
  unfolding resume
  resume-same start b = rw (enter-same [], begun-same b (enter r t res' stm ps []))
  resume-same (inside l up) b = rw (walk_same b)
  resume-same finish b = refl

pub queries-do-not-look : QueriesDoNotLook
unfolding open_query_of stale next_query_of answer_of
queries-do-not-look c m m' s ws = (
  rw (same-fits c m m' s),
  λ q b. rw (same-fits c m m' s, s.statements, resume-same c m m' s m'.statements),
)
