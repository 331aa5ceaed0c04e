-- Two arrangements of the same patterns have the same solutions, each once (`ArrangementClaim`), a rearrangement of
-- accepted words is accepted (`RearrangedClaim`), and a statement more takes no solution away (`MoreTriplesClaim`,
-- `MonotoneClaim`). By the bindings that solve, with no word of chains or places. Assumes nothing.
use mathlib.Core.Path.{◌≡◌, refl, sym, ap, ◌∙◌}
use mathlib.Core.Logic.{◌⊎◌, inl, inr, ◌↔◌}
use mathlib.Core.Bool.{true, false, true≢false}
use mathlib.Core.List.Memᴰ
use mathlib.Core.List.{List, [], ◌∷◌, ◌++◌, map, Memᴰ}
use mathlib.Core.List.Permᴰ
use mathlib.Core.Option.{some}
use Prim.Native.Nat.{ℕ, zero, suc, ◌*◌, ◌≤◌}
use native.Mathlib.Omega.{arith}
use lib.ListN.{length}
use lib.Dec.{eqb}
use borrow.Author.Tests.{eqb-true, eqb-false}
use Rattle.store.specs.declared.Position.{Position}
use Rattle.store.specs.declared.Position.TheVariants.{Subject, Predicate, Object}
use Rattle.store.specs.declared.Counters.{Counters}
use Rattle.store.specs.declared.Triple.{Triple}
use Rattle.store.specs.Shared.{at, Entry}
use Rattle.store.specs.Tables.{Tables}
use Rattle.store.specs.Model.{Form, assert}
use Rattle.store.specs.Walk.{entry_at}
use Rattle.store.specs.Soundness.{Sound}
use Rattle.store.specs.History.{Store, call_store}
use Rattle.store.proofs.Tests.{decide}
use Rattle.graph.specs.declared.QueryPattern.{QueryPattern}
use Rattle.graph.specs.Words.{pattern, word_at, patterns_of, words_ok, Bindings, bound_to, unbound, under}
use Rattle.graph.specs.Order.{NoDuplicates}
use Rattle.graph.specs.Graph.{named, pattern_of, name_or, mapping_of}
use Rattle.graph.specs.Meaning.{RdfTriple, part_at, Graph, TriplePattern, BasicGraphPattern, Mapping, Solves}
use Rattle.graph.specs.Claims.{Reply, AllPositive, found_in, Read, reading, SoundStore, graph_in}
use Rattle.graph.specs.Arranging.{SamePatterns, solutions_by, ReadsThrough, ArrangementClaim}
use Rattle.graph.specs.Arranging.{RearrangedClaim, MoreTriplesClaim, MonotoneClaim}
use Rattle.graph.proofs.Laws.{patterns-length}
use Rattle.graph.proofs.Accepted.{words-accepted}
use Rattle.graph.proofs.Permuted.{perm-member, perm-length, same-members}
use Rattle.graph.proofs.Solve.{every-member, every_of, occurs, Among, Solved, solve-sound, solve-complete}
use Rattle.graph.proofs.Solve.{descending-nodup, triple-ext}
use Rattle.graph.proofs.Names.{named-at, names_apart}
use Rattle.graph.proofs.Solutions.{occurs-of, occurs-at, positive, among_in, in-among, among-low}
use Rattle.graph.proofs.Solutions.{among-high, once-as-mappings, solution-low}
use Rattle.graph.proofs.ReadThrough.{read_all}
use Rattle.graph.proofs.Writes.{NamesKept, names-kept, writes}
use Rattle.graph.proofs.Calls.{fit, low, everything, start-told, everything-order, query-reads}

-- ---- what solves, of the same patterns and of more entries

same-occurs : (v : ℕ) (ps qs : List QueryPattern) → ((x : QueryPattern) → Memᴰ x ps → Memᴰ x qs)
    → occurs v qs ≡ false
    → occurs v ps ≡ false
same-occurs v ps qs h e =
    decide (occurs v ps)
    (λ d. let r = occurs-at v ps d in
    absurd (true≢false (sym (occurs-of v qs r.0 r.2 (h r.0 r.1) r.3) ∙ e)))
    (λ d. d)

pub solved-as : (E E' : ℕ → Entry) (n n' : ℕ) (ps qs : List QueryPattern) (b s : Bindings)
    → ((x : QueryPattern) → Memᴰ x ps ↔ Memᴰ x qs) → ((t : Triple) → Among E n t → Among E' n' t)
    → Solved E n ps b s
    → Solved E' n' qs b s
solved-as E E' n n' ps qs b s h g S = record {
  len = S.len;
  more = S.more;
  only = λ v q e. S.only v q (same-occurs v ps qs (λ x. (h x).0) e);
  holds = every_of (λ x. Among E' n' (under s x)) qs (λ x k.
      g (under s x) (every-member (λ x. Among E n (under s x)) ps x S.holds ((h x).1 k)));
}

-- ---- what a reading has found

pub found_in_lem : {A Q : Type 0} {rs : List (Reply A Q)} {ss : List A} → Read rs ss → (s : A) → Memᴰ s (found_in rs)
    → Memᴰ s ss
found_in_lem R s k = rw R.split (Memᴰ.append_left R.rest k)

once-front : {A : Type 0} (xs ys : List A) → NoDuplicates (xs ++ ys) → NoDuplicates xs
once-front [] ys d = tt
once-front (x ∷ xs) ys d = ((λ k. d.0 (Memᴰ.append_left ys k)), once-front xs ys d.1)

pub found-once : {A Q : Type 0} {rs : List (Reply A Q)} {ss : List A} → Read rs ss → NoDuplicates ss
    → NoDuplicates (found_in rs)
found-once {rs = rs} R d = once-front (found_in rs) R.rest (rw R.split at d)

-- ---- arrangements

module _ (c : Counters) (m : Tables) (S : Sound c m) (ws : List ℕ) (words : words_ok c.resources ws ≡ true) where
  all_once : NoDuplicates (everything c m S ws words)
  all_once = descending-nodup _ (everything c m S ws words) (everything-order c m S ws words)

  pub reads : (bs : List ℕ) → AllPositive bs → Read (reading c m ws bs) (everything c m S ws words)
  reads bs h = (start-told c m S ws words bs h).read

  pub solved : (s : Bindings) → Memᴰ s (everything c m S ws words)
      → Solved (entry_at m.statements) c.statements (patterns_of ws) unbound s
  solved s k =
      solve-sound (entry_at m.statements) c.statements (positive c m S) (patterns_of ws) unbound s
      (fit c m S ws words) k

  pub solution : (s : Bindings) → Solved (entry_at m.statements) c.statements (patterns_of ws) unbound s
      → Memᴰ s (everything c m S ws words)
  solution s k =
      solve-complete (entry_at m.statements) c.statements (positive c m S) (patterns_of ws) unbound s
      (fit c m S ws words) k

  once_by : (bs : List ℕ) → AllPositive bs
      → NoDuplicates (solutions_by c m ws bs) × NoDuplicates (map (mapping_of m) (solutions_by c m ws bs))
  once_by bs h =
      let d = found-once (reads bs h) all_once in (
        d,
        once-as-mappings c m S (patterns_of ws) (fit c m S ws words) (low c m S ws words) (solutions_by c m ws bs)
            (λ s k. found_in_lem (reads bs h) s k) d,
      )

module _ (c : Counters) (m : Tables) (S : Sound c m) (ws ws' : List ℕ) (words : words_ok c.resources ws ≡ true)
    (words' : words_ok c.resources ws' ≡ true) where
  across : SamePatterns ws ws' → (s : Bindings) → Memᴰ s (everything c m S ws words)
      → Memᴰ s (everything c m S ws' words')
  across h s k =
      solution c m S ws' words' s
      (solved-as (entry_at m.statements) (entry_at m.statements) c.statements c.statements (patterns_of ws)
      (patterns_of ws') unbound s h (λ t a. a) (solved c m S ws words s k))

-- what is known of every query, in these words
reads-through : (c : Counters) (m : Tables) → Sound c m → (ws : List ℕ) → words_ok c.resources ws ≡ true
    → ReadsThrough c m ws
reads-through c m S ws words =
    let r = query-reads c m S ws words in
    record { opened = r.0; unrefused = λ bs h. (r.1.2 bs h).unrefused; ends = r.2 }

pub same-patterns-same : ArrangementClaim
same-patterns-same c m S ws ws' words words' h = record {
  through = reads-through c m S ws words;
  once = once_by c m S ws words;
  among = λ bs bs' p e s k. rw (read_all (reads c m S ws' words' bs' e.0) e.1)
      (across c m S ws ws' words words' h s (found_in_lem (reads c m S ws words bs p) s k));
  same = λ bs bs' e e'.
      rw (read_all (reads c m S ws words bs e.0) e.1, read_all (reads c m S ws' words' bs' e'.0) e'.1)
      (same-members (everything c m S ws words) (everything c m S ws' words') (all_once c m S ws words)
      (all_once c m S ws' words')
      (λ s. (
        across c m S ws ws' words words' h s,
        across c m S ws' ws words' words (λ x. ((h x).1, (h x).0)) s,
      )));
}

-- over names: a pattern's members decide what solves it
pub same-solves : (G : Graph) (q q' : BasicGraphPattern) (μ : Mapping)
    → ((p : TriplePattern) → Memᴰ p q ↔ Memᴰ p q') → Solves G q μ → Solves G q' μ
same-solves G q q' μ h W = record {
  domain = λ v. (
    (λ o. (W.domain v).0 (o.0, (h o.0).1 o.1, o.2, o.3)),
    (λ d. let o = (W.domain v).1 d in (o.0, (h o.0).0 o.1, o.2, o.3)),
  );
  holds = λ p k. W.holds p ((h p).1 k);
}

pub same-terms : (m : Tables) (ps qs : List QueryPattern) → ((x : QueryPattern) → Memᴰ x ps → Memᴰ x qs)
    → (p : TriplePattern) → Memᴰ p (map (pattern_of m) ps) → Memᴰ p (map (pattern_of m) qs)
same-terms m ps qs h p k =
    let r = Memᴰ.of_map (pattern_of m) ps k in rw (← r.2) (Memᴰ.map (pattern_of m) (h r.0 r.1))

-- ---- words and their patterns

pattern-word : (ws : List ℕ) (x : QueryPattern) (p : Position) → Memᴰ x (patterns_of ws) → Memᴰ (word_at p x) ws
unfolding patterns_of
pattern-word [] x p k = absurd (Memᴰ.not-nil k)
pattern-word (a ∷ []) x p k = absurd (Memᴰ.not-nil k)
pattern-word (a ∷ b ∷ []) x p k = absurd (Memᴰ.not-nil k)
pattern-word (a ∷ b ∷ d ∷ ws) x p k = one p (Memᴰ.cases_cons k) (pattern-word ws x)
  where
    one : (p : Position) → (x ≡ pattern a b d) ⊎ Memᴰ x (patterns_of ws)
        → ((p : Position) → Memᴰ x (patterns_of ws) → Memᴰ (word_at p x) ws)
        → Memᴰ (word_at p x) (a ∷ b ∷ d ∷ ws)
    one Subject (inl e) f = Memᴰ.head (ap (word_at Subject) e)
    one Predicate (inl e) f = Memᴰ.tail (Memᴰ.head (ap (word_at Predicate) e))
    one Object (inl e) f = Memᴰ.tail (Memᴰ.tail (Memᴰ.head (ap (word_at Object) e)))
    one Subject (inr q) f = Memᴰ.tail (Memᴰ.tail (Memᴰ.tail (f Subject q)))
    one Predicate (inr q) f = Memᴰ.tail (Memᴰ.tail (Memᴰ.tail (f Predicate q)))
    one Object (inr q) f = Memᴰ.tail (Memᴰ.tail (Memᴰ.tail (f Object q)))

-- a word of one of the patterns
abbrev IsIn : ℕ → List QueryPattern → Type 0
IsIn w ps = (x : QueryPattern) × Memᴰ x ps × (p : Position) × (w ≡ word_at p x)

word-pattern : (ws : List ℕ) (w : ℕ) → length ws ≡ 3 * length (patterns_of ws) → Memᴰ w ws → IsIn w (patterns_of ws)
unfolding patterns_of
word-pattern [] w e k = absurd (Memᴰ.not-nil k)
word-pattern (a ∷ []) w e k = absurd (omega arith)
word-pattern (a ∷ b ∷ []) w e k = absurd (omega arith)
word-pattern (a ∷ b ∷ d ∷ ws) w e k = one (Memᴰ.cases_cons k) (word-pattern ws w (omega arith))
  where
    three : (w ≡ d) ⊎ Memᴰ w ws → (Memᴰ w ws → IsIn w (patterns_of ws)) → IsIn w (pattern a b d ∷ patterns_of ws)
    three (inl q) f = (pattern a b d, Memᴰ.head refl, Object, q)
    three (inr n) f = let r = f n in (r.0, Memᴰ.tail r.1, r.2, r.3)

    two : (w ≡ b) ⊎ Memᴰ w (d ∷ ws) → (Memᴰ w ws → IsIn w (patterns_of ws)) → IsIn w (pattern a b d ∷ patterns_of ws)
    two (inl q) f = (pattern a b d, Memᴰ.head refl, Predicate, q)
    two (inr n) f = three (Memᴰ.cases_cons n) f

    one : (w ≡ a) ⊎ Memᴰ w (b ∷ d ∷ ws) → (Memᴰ w ws → IsIn w (patterns_of ws)) → IsIn w (pattern a b d ∷ patterns_of ws)
    one (inl q) f = (pattern a b d, Memᴰ.head refl, Subject, q)
    one (inr n) f = two (Memᴰ.cases_cons n) f

pub rearranged : RearrangedClaim
rearranged r ws ws' e d q =
    let A = (words-accepted r ws).0 e in
    let h = patterns-length ws in
    let n = perm-length d in
    let k : length ws' ≡ 3 * length (patterns_of ws') = omega (arith, A.three-each, h.0, h.1) in (
      (words-accepted r ws').1 (record {
        patterns = A.patterns;
        three-each = q ∙ A.three-each;
        few = A.few;
        each = λ w l. let x = word-pattern ws' w k l in
            rw x.3 (A.each (word_at x.2 x.0) (pattern-word ws x.0 x.2 (perm-member (Permᴰ.symm d) x.1)));
      }),
      λ x. (perm-member d, perm-member (Permᴰ.symm d)),
    )

-- ---- more triples

pub more-triples : MoreTriplesClaim
more-triples G H h q μ W = record {
  domain = W.domain;
  holds = λ p k. let r = W.holds p k in (r.0, r.1, h r.0 r.2);
}

-- ---- one statement more

module _ (s : Store) (S : SoundStore s) (f : Form) (x : Triple) where
  abbrev s' : Store
  s' = (call_store s (assert f x)).0

  sound-after : SoundStore s'
  sound-after = ((writes s S).asserts f x).sound

  kept : NamesKept s s'
  kept = names-kept s S f x

  -- every triple stays, or is the one asserted
  more : (z : RdfTriple) → graph_in s z → graph_in s' z
  more z g =
      let A = (writes s S).asserts f x in
      let v = (call_store s (assert f x)).1 in
      decide (eqb v.refusal 0)
      (λ e. (A.added (eqb-true v.refusal 0 e) z).1 (inl g))
      (λ e. (A.refused (eqb-false v.refusal 0 e) z).1 g)

  more-among : (t : Triple) → Among (entry_at s.tables.statements) s.counters.statements t
      → Among (entry_at s'.tables.statements) s'.counters.statements t
  more-among t a =
      let c = s.counters in
      let c' = s'.counters in
      let r = in-among c' s'.tables sound-after (named s.tables t)
      (more (named s.tables t) (among_in c s.tables S t a)) in
      let u = r.0 in
      let e : u ≡ t = triple-ext u t (λ p.
      let l = among-low c s.tables S t a p in
      let h = among-high c s.tables S t a p in
      names_apart c' s'.tables sound-after (at p u) (at p t) (among-low c' s'.tables sound-after u r.1 p)
      (among-high c' s'.tables sound-after u r.1 p) l (omega (arith, kept.resources))
      (sym (named-at s'.tables u p) ∙ ap (part_at p) r.2 ∙ named-at s.tables t p ∙ sym (kept.kept (at p t) l h))) in
      rw (← e) r.1

  module _ (ws : List ℕ) (words : words_ok s.counters.resources ws ≡ true) where
    words-after : words_ok s'.counters.resources ws ≡ true
    words-after = rw kept.resources words

    found_after : (b : Bindings) → Memᴰ b (everything s.counters s.tables S ws words)
        → Memᴰ b (everything s'.counters s'.tables sound-after ws words-after)
    found_after b k =
        solution s'.counters s'.tables sound-after ws words-after b
        (solved-as (entry_at s.tables.statements) (entry_at s'.tables.statements) s.counters.statements
        s'.counters.statements (patterns_of ws) (patterns_of ws) unbound b (λ x. ((λ k. k), (λ k. k))) more-among
        (solved s.counters s.tables S ws words b k))

    -- a number found keeps its name
    named-after : (b : Bindings) → Memᴰ b (everything s.counters s.tables S ws words) → (v : ℕ)
        → mapping_of s'.tables b v ≡ mapping_of s.tables b v
    unfolding mapping_of
    named-after b k v =
        name-kept (bound_to b v)
        (solution-low s.counters s.tables S (patterns_of ws) (fit s.counters s.tables S ws words)
        (low s.counters s.tables S ws words) b k v)
      where
        name-kept : (n : ℕ) → n ≤ s.counters.resources → name_or s'.tables n ≡ name_or s.tables n
        name-kept zero h = unfold name_or in refl
        name-kept (suc n) h = unfold name_or in (ap some (kept.kept (suc n) (omega arith) h))

pub one_more_lem : MonotoneClaim
one_more_lem s S f x ws words =
    let c = (s' s S f x).counters in
    let m = (s' s S f x).tables in
    let S' = sound-after s S f x in
    let ok = words-after s S f x ws words in
    record {
      words = ok;
      through = reads-through c m S' ws ok;
      found = λ bs bs' p e b k. rw (read_all (reads c m S' ws ok bs' e.0) e.1)
          (found_after s S f x ws words b (found_in_lem (reads s.counters s.tables S ws words bs p) b k));
      named = λ bs p b k. named-after s S f x ws words b (found_in_lem (reads s.counters s.tables S ws words bs p) b k);
    }
