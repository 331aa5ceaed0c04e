-- Laws of what holds of the walk's stack: what refusals 1 and 8 have tested, entered records, a stack whose deepest
-- level is stored last. Assumes nothing.
use mathlib.Core.Path.{◌≡◌, refl, ◌∙◌}
use mathlib.Core.Logic.{◌≢◌}
use mathlib.Core.List.{List}
use mathlib.Core.Option.{Option, none, some}
use Prim.Native.Nat.{ℕ, zero, suc, ◌+◌, ◌*◌, ◌≤◌, ◌<◌}
use native.Mathlib.Omega.{arith}
use lib.ListN.{length, get_or, set, length-set}
use lib.Seq.{get_or-set_same, get_or-set_other}
use lib.Dec.{eqb}
use borrow.Author.Tests.{eqb-true, eqb-false}
use Rattle.store.specs.declared.Triple.{Triple}
use Rattle.store.specs.Tables.{statement_words}
use Rattle.chain.specs.Chains.{PatternHeld}
use Rattle.graph.specs.declared.QueryPattern.{QueryPattern}
use Rattle.graph.specs.declared.Solution.{Solution}
use Rattle.graph.specs.declared.Level.{Level}
use Rattle.graph.specs.Query.{match, or_else, record_at, next_pattern, binds, asked}
use Rattle.graph.specs.Place.{no_level, levels_of}
use Rattle.graph.specs.Words.{patterns_of, pattern, max_patterns, variables, Bindings, under}
use Rattle.pattern_level.specs.Levels.{QueryOk, LevelsHeld}
use Rattle.query_stack.specs.declared.stack.Stack.{Stack}
use Rattle.query_walk.specs.Turn.{Ready, LevelSure, Stands}
use Rattle.store.proofs.Tests.{decide, known-high}
use Rattle.chain.proofs.Chains.{held}
use Rattle.graph.proofs.Laws.{levels-set}
use Rattle.graph.proofs.Levels.{Low, low-none, match_low}
use Rattle.query_walk.proofs.Patterns.{PatternIn, pattern-in, few-patterns, under-within}

-- ---- what 1 and 8 have tested

module _ (r t : ℕ) (res stm ws : List ℕ) (k : Ready r t res stm ws) where
  pub pattern-of : (d : ℕ) → d < length (patterns_of ws) → PatternIn r (get_or (patterns_of ws) d (pattern 0 0 0))
  pattern-of d h = pattern-in r ws d (let q = k.few-resources in omega arith) k.words-ok h

  pub ready-query : QueryOk ws
  ready-query = record { few = few-patterns r ws k.words-ok; each = λ d h. (pattern-of d h).ok }

  pub asked-held : (b : Bindings) (d : ℕ) → Low r b → d < length (patterns_of ws)
      → PatternHeld res (under b (get_or (patterns_of ws) d (pattern 0 0 0)))
  asked-held b d w h = held res r _ k.in-resources (under-within r b (get_or (patterns_of ws) d (pattern 0 0 0)) w
      (pattern-of d h))

-- ---- entered records

-- each of the first d levels
pub record Sure (r t : ℕ) (stm : List ℕ) (ls : List Level) (d : ℕ) : Type 0 where
  pub at_each : (i : ℕ) → i < d → LevelSure r t stm (get_or ls i no_level)

module _ (r t : ℕ) (stm : List ℕ) (ls : List Level) where
  pub sure-none : Sure r t stm ls 0
  sure-none = record { at_each = λ i h. absurd (omega arith) }

  pub sure-set : (d j : ℕ) (l : Level) → d ≤ j → Sure r t stm ls d → Sure r t stm (set ls j l) d
  sure-set d j l h s =
      record { at_each = λ i g. let q : i ≢ j = omega arith in rw (get_or-set_other ls j i l no_level q) (s.at_each i g) }

  pub sure-less : (d e : ℕ) → e ≤ d → Sure r t stm ls d → Sure r t stm ls e
  sure-less d e h s = record { at_each = λ i g. s.at_each i (omega arith) }

  pub sure-more : (d : ℕ) → Sure r t stm ls d → LevelSure r t stm (get_or ls d no_level) → Sure r t stm ls (d + 1)
  sure-more d s l =
      record {
        at_each = λ i g. decide (eqb i d) (λ e. rw (eqb-true i d e) l)
            (λ e. let n = eqb-false i d e in s.at_each i (omega arith));
      }

  pub sure-held : (d : ℕ) → d ≤ max_patterns → statement_words * t ≤ length stm → Sure r t stm ls d → LevelsHeld stm ls d
  sure-held d h g s =
      record {
        few = h;
        each = λ i f. let q = s.at_each i f in
            record { from_one = q.from_one; whole = let w = q.within in omega arith };
      }

  -- what entered records bind is within R
  pub binds-within : (ps : List QueryPattern) (d : ℕ) → Sure r t stm ls d → Low r (binds stm ps (levels_of ls d))
  unfolding binds levels_of
  binds-within ps zero s = low-none r variables
  binds-within ps (suc d) s =
      pick (match (next_pattern ps (levels_of ls d)) (record_at stm (get_or ls d no_level).statement.0)
      (binds stm ps (levels_of ls d))) refl
      (binds-within ps d (sure-less (suc d) d (omega arith) s)) (s.at_each d (omega arith))
    where
      pick : (o : Option Bindings)
          → match (next_pattern ps (levels_of ls d)) (record_at stm (get_or ls d no_level).statement.0)
          (binds stm ps (levels_of ls d)) ≡ o
          → Low r (binds stm ps (levels_of ls d)) → LevelSure r t stm (get_or ls d no_level)
          → Low r (or_else o (binds stm ps (levels_of ls d)))
      pick none e w l = w
      pick (some b) e w l = match_low r _ _ _ b w (known-high r _ l.resources) e

-- ---- a stack whose deepest level is stored last

module _ (r t : ℕ) (stm ws : List ℕ) (ls : List Level) (d : ℕ) (l : Level) (few : d < length (patterns_of ws))
    (small : d < max_patterns) (size : length ls ≡ max_patterns) where
  pub top-is : get_or (set ls d l) d no_level ≡ l
  top-is = get_or-set_same ls d l no_level (omega arith)

  pub stands-new : (b : Solution) (x : Triple) → Sure r t stm ls d → l.statement.0 ≤ t → b.values
      ≡ binds stm (patterns_of ws) (levels_of ls d)
      → x ≡ asked stm (patterns_of ws) (levels_of ls d) → Stands r t stm ws
      (record { top = d; levels = set ls d l; bound = b; asked = x })
  stands-new b x s h e f =
      record {
        few = few;
        slots = length-set ls d l ∙ size;
        next-within = rw top-is h;
        sure = (sure-set r t stm ls d d l (omega arith) s).at_each;
        bound-is = rw (levels-set ls d d l (omega arith)) e;
        asked_is = rw (levels-set ls d d l (omega arith)) f;
      }

-- ---- what a stack says

module _ (r t : ℕ) (stm ws : List ℕ) (q : Stack) (s : Stands r t stm ws q) where
  pub sure-of : Sure r t stm q.levels q.top
  sure-of = record { at_each = s.sure }
