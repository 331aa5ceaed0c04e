use Rattle.dictionary.proofs.Answers.{Tested, malformed, formed, readable, has_room, miss-within}
use Rattle.dictionary.proofs.Answers.{intern-capacity, intern-malformed, intern-searched, intern-full}
use Rattle.dictionary.proofs.Answers.{intern-new, left-short}
use Rattle.table.proofs.Capacity.{fits-room}
use Rattle.store.proofs.Form.{form-short}
use Rattle.store.specs.Dictionary.{intern_as, one_name_more}
use Rattle.store.specs.Tables.{tables, fits}
use Rattle.table.proofs.Branches.{passed, failed}
use native.Mathlib.Omega.{arith}
use mathlib.Core.Path.{◌≡◌, refl, sym, ap, ◌∙◌}
use Prim.Native.Nat.{ℕ}
use Rattle.std.proofs.Common.{Result, Ok}
use Rattle.std.proofs.lemmas.Result.{err_from_is_err_and}
use Rattle.store.specs.declared.Lookup.{Lookup}
use Rattle.store.specs.declared.Lookup.TheVariants.{Absent}
use Rattle.store.specs.declared.Refusal.{Refusal}
use Rattle.dictionary.proofs.intern.Goals as goal
use Rattle.dictionary.proofs.intern.Goals.{After-canonical-short, After-fits-in-Absent}

tested : (c : After-canonical-short)
    → (let a = c.args in
    Tested a.c (tables a.resources.now a.statements.now a.index.now a.text.now)
    a.name.now c.canonical-short.result.now)
tested c =
    let a = c.args in
    let m = tables a.resources.now a.statements.now a.index.now a.text.now in
    let k = c.name_kind-kind in
    record {
      fit = passed {t = fits a.c m} c.fits.ensures c.if-not-fits.false;
      well = formed _ k.result k.ensures c.if-kind-eq0.false;
      left = c.canonical-short.ensures;
    }

-- the search has told that the name is absent
absent : {x : Lookup} {k : ℕ} {place : Result Lookup Refusal} → Ok x ≡ place → x ≡ Absent k → Ok (Absent k) ≡ place
absent e d = ap Ok (sym d) ∙ e

-- the name is new: its place in the index, and whether there is room for it
grown : (c : After-fits-in-Absent)
    → (let a = c.args in
    c.fits-in-Absent.result ≡ fits (one_name_more a.c c.canonical-short.result.now)
    (tables a.resources.now a.statements.now a.index.now a.text.now))
grown c = rw c.one_name_more-grown.ensures at c.fits-in-Absent.ensures

pub returns-then-not-fits : goal.returns-then-not-fits
returns-then-not-fits c = let a = c.args in
    let m = tables a.resources.now a.statements.now a.index.now a.text.now in
    let f = failed {t = fits a.c m} c.fits.ensures c.if-not-fits.true in
    intern-capacity a.c m m a.name.now _ f refl

pub returns-then-kind-eq0 : goal.returns-then-kind-eq0
returns-then-kind-eq0 c =
    let k = c.name_kind-kind in
    let a = c.args in
    let m = tables a.resources.now a.statements.now a.index.now a.text.now in
    let f = passed {t = fits a.c m} c.fits.ensures c.if-not-fits.false in
    intern-malformed a.c m m a.name.now _ f (malformed _ k.result k.ensures c.if-kind-eq0.true) refl

pub search-requires : goal.search-requires
search-requires c = readable _ _ (tested (goal.at.search-requires c).After-canonical-short).fit

pub one_name_more-grown-requires : goal.one_name_more-grown-requires
one_name_more-grown-requires c = let t = tested (goal.at.one_name_more-grown-requires c).After-canonical-short in
    let r = fits-room _ _ t.fit in
    -- both spellings are short enough: what tells them apart is the room
    let left = left-short _ _ _ _ t in
    let spelled = form-short _ t.well in
    (omega arith, r.few-resources, r.few_bytes)

pub returns-then-not-fits-2 : goal.returns-then-not-fits-2
returns-then-not-fits-2 c = let p = (goal.at.returns-then-not-fits-2 c).After-fits-in-Absent in
    intern-full _ _ _ _ (tested (goal.at.returns-then-not-fits-2 c).After-canonical-short) _ (absent c.in_ok-number.ensures c.in-Absent.is) (failed (grown p) c.if-not-fits-2.true)

pub append-requires : goal.append-requires
append-requires c = let p = (goal.at.append-requires c).After-fits-in-Absent in
    let a = c.args in
    let m = tables a.resources.now a.statements.now a.index.now a.text.now in
    let room = passed (grown p) c.if-not-fits-2.false in
    has_room a.c m _ _ room (miss-within a.c m _ _ (absent c.in_ok-number.ensures c.in-Absent.is))

pub returns-in_err-number : goal.returns-in_err-number
unfolding intern_as
returns-in_err-number c =
    let p = err_from_is_err_and c.from_residual.result c.from_residual.ensures.1 in
    rw (p.1, p.2) (intern-searched _ _ _ _ _ _ (tested (goal.at.returns-in_err-number c).After-canonical-short) (ap (intern_as _ _ _) c.in_err-number.ensures))

pub returns-in-Number : goal.returns-in-Number
unfolding intern_as
returns-in-Number c = intern-searched _ _ _ _ _ _ (tested (goal.at.returns-in-Number c).After-canonical-short)
    (ap (intern_as _ _ _) (ap Ok (sym c.in-Number.is) ∙ c.in_ok-number.ensures))

pub returns-else-not-fits-2 : goal.returns-else-not-fits-2
returns-else-not-fits-2 c =
    let p = (goal.at.returns-else-not-fits-2 c).After-fits-in-Absent in
    let k = c.name_kind-kind in
    let room = passed (grown p) c.if-not-fits-2.false in
    intern-new _ _ _ _ (tested (goal.at.returns-else-not-fits-2 c).After-canonical-short) _ k.result _ _ _ _ (absent c.in_ok-number.ensures c.in-Absent.is) room
    c.one_name_more-grown.ensures k.ensures c.append.ensures
