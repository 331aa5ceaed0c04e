-- The second opening at each way out, by its tests and the pattern found. Assumes nothing.
use mathlib.Core.Path.{◌≡◌, refl}
use mathlib.Core.Bool.{true}
use mathlib.Core.List.{List, [], ◌∷◌}
use Prim.Native.Nat.{ℕ, suc, ◌+◌, ◌*◌, ◌≤◌, ◌<◌}
use native.Mathlib.Omega.{arith}
use lib.ListN.{length}
use Rattle.store.specs.declared.Counters.{Counters}
use Rattle.std.specs.Prelude.{Ok}
use Rattle.store.specs.Tables.{Tables, fits}
use Rattle.store.proofs.Tests.{decide}
use Rattle.table.proofs.Capacity.{fits-room}
use Rattle.graph.specs.declared.QueryPattern.{QueryPattern}
use Rattle.graph.specs.declared.QueryCursor.{QueryCursor}
use Rattle.graph.specs.Place.{start_cursor}
use Rattle.graph.specs.Words.{variables, pattern, patterns_of, words_ok}
use Rattle.graph.specs.Arranging.{all_countable, key_of, none_below, least_at, to_front, arranged, arranged_with, arrange_of}
use Rattle.graph.proofs.Laws.{patterns-length}
use Rattle.graph.proofs.Bind.{Fits3}
use Rattle.graph.proofs.Solve.{every-at}
use Rattle.graph.proofs.Levels.{LowWords}
use Rattle.graph.proofs.Calls.{words-few, words-fitting}
use Rattle.graph.proofs.Fronting.{least-here, least_on}
use Rattle.graph.proofs.Fronting.{arrange-opened}
use Rattle.query_arrange.specs.Held.{QueryHeld}

pub query-held : (c : Counters) (m : Tables) (ws : List ℕ) → fits c m ≡ true → words_ok c.resources ws ≡ true
    → QueryHeld m.resources ws
query-held c m ws f w =
    let A = words-fitting c m ws f w in
    let R = fits-room c m f in
    record {
      few = words-few c.resources ws w;
      each = λ i h. record {
        each = λ p. record {
          held = λ e. record {
            from_one = (every-at (λ x. Fits3 variables x) (pattern 0 0 0) (patterns_of ws) i A.0 h p).number e;
            whole = omega (
              arith,
              every-at (λ x. LowWords c.resources x) (pattern 0 0 0) (patterns_of ws) i A.1 h p e,
              R.in-resources,
            );
          };
        };
      };
    }

least-none : (t : ℕ) (res : List ℕ) → least_at t res [] ≡ 0
unfolding least_at
least-none t res = refl

-- the pattern found is one of them
least-within : (t : ℕ) (res : List ℕ) (x : QueryPattern) (ps : List QueryPattern)
    → least_at t res (x ∷ ps) < suc (length ps)
least-within t res x [] = rw (least-here t res x [] (unfold none_below in refl)) (omega arith)
least-within t res x (y ∷ ps) =
    decide (none_below t res (key_of t res x) (y ∷ ps))
    (λ e. rw (least-here t res x (y ∷ ps) e) (omega arith))
    (λ e. rw (least_on t res x (y ∷ ps) e) (omega (arith, least-within t res y ps)))

pub in_words : (t : ℕ) (res ws : List ℕ) (i : ℕ) → i ≡ least_at t res (patterns_of ws) → 0 < i → 3 * i + 3 ≤ length ws
in_words t res ws i e h = one (patterns_of ws) (patterns-length ws).0 e
  where
    one : (ps : List QueryPattern) → 3 * length ps ≤ length ws → i ≡ least_at t res ps → 3 * i + 3 ≤ length ws
    one [] l d = absurd (omega (arith, d, least-none t res))
    one (x ∷ ps) l d = omega (arith, l, d, least-within t res x ps)

-- ---- opened

pub opened : (c : Counters) (m : Tables) (ws : List ℕ) → fits c m ≡ true → words_ok c.resources ws ≡ true
    → all_countable c.statements m.resources (patterns_of ws) ≡ true
    → (i : ℕ) (ws' : List ℕ) (q : QueryCursor)
    → i ≡ least_at c.statements m.resources (patterns_of ws) → ws' ≡ to_front i ws → q ≡ start_cursor c.generation
    → arranged_with ws' (Ok q) ≡ arrange_of c m ws
unfolding arranged
opened c m ws f w a i ws' o e d q = rw (arrange-opened c m ws f w a, q, d, e)
