-- What a line loaded by the code does to the graph: the contract of `load_line` and the graph's claim, put together; and the file of a
-- sound store loaded. Assumes nothing.
use mathlib.Core.Path.{◌≡◌, refl, sym, ap, ◌∙◌}
use mathlib.Core.Bool.{Bool, true, false, cond}
use mathlib.Core.List.{[]}
use lib.Dec.{eqb}
use borrow.Author.Tests.{eqb-true}
use Rattle.store.specs.Values.{Values}
use Rattle.store.specs.History.{Store, store}
use Rattle.store.proofs.Tests.{decide}
use Rattle.graph.specs.Claims.{load_of}
use Rattle.graph.proofs.Theorems.{line-loads}
use Rattle.lines.specs.Claims.{names_in}
use Rattle.loader.specs.Lines.{Came, came, outcome_of, load_line_of, refusal_in, CodeLoads, CodeLoadsFile}
use Rattle.loader.proofs.ExportedFile as exported

status-only : (b : Bool) (x y : Came) → refusal_in x ≡ 0 → refusal_in y ≡ 0 → refusal_in (cond b x y) ≡ 0
status-only true x y p q = p
status-only false x y p q = q

refusal_is : (v : Values) → refusal_in (outcome_of v) ≡ v.refusal
refusal_is v =
    decide (eqb v.refusal 0)
    (λ e. rw e (status-only (eqb v.status 1) _ _ refl (status-only (eqb v.status 2) _ _ refl refl) ∙ sym (eqb-true v.refusal 0 e)))
    (λ e. rw e)

pub code-loads : CodeLoads
unfolding load_line_of
code-loads c m m' text x y z r S L =
    let y' = names_in text x y z in
    let a = load_of (store c m []) y' in
    let e = L.sound S [] in
    let p : store r.counters m' [] ≡ a.0 = ap (λ (w : Store × Came). w.0) e in
    let q : refusal_in (came r.outcome) ≡ a.1.refusal = ap (λ (w : Store × Came). refusal_in w.1) e ∙ refusal_is a.1 in
    rw (p, q) (line-loads (store c m []) S y').0

pub code-loads-file : CodeLoadsFile
code-loads-file = exported.code-loads-file
