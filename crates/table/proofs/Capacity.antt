-- What counters within capacity say of the tables' lengths. Assumes nothing.
use mathlib.Core.Path.{◌≡◌}
use mathlib.Core.Bool.{true}
use Prim.Native.Nat.{◌*◌, ◌≤◌}
use native.Mathlib.Omega.{arith}
use lib.ListN.{length}
use Rattle.store.specs.declared.Counters.{Counters}
use Rattle.store.proofs.Tests.{fits-parts}
use Rattle.store.specs.Tables.{Tables, fits}
use Rattle.store.specs.Tables.{resource_words, statement_words}
use Rattle.store.specs.Shared.{max_resources, max_statements, max_text, max_reclaims}

module _ (c : Counters) (m : Tables) where
  -- counters within capacity: the records and bytes in use lie in the tables
  pub record Room : Type 0 where
    pub few-resources : c.resources ≤ max_resources
    pub few-statements : c.statements ≤ max_statements
    pub few_bytes : c.text ≤ max_text
    pub few-reclaims : c.generation ≤ max_reclaims
    pub in-resources : resource_words * c.resources ≤ length m.resources
    pub in-statements : statement_words * c.statements ≤ length m.statements
    pub in-index : c.resources ≤ length m.index
    pub in-text : c.text ≤ length m.text

  pub fits-room : fits c m ≡ true → Room
  fits-room e =
      let h = fits-parts c m e in
      let a = h.0 in
      let b = h.1 in
      let d = h.2 in
      record {
        few-resources = omega arith;
        few-statements = omega arith;
        few_bytes = omega arith;
        few-reclaims = h.3;
        in-resources = omega arith;
        in-statements = omega arith;
        in-index = omega arith;
        in-text = omega arith;
      }
