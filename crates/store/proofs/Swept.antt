-- Words of the tables in a reclaim: links and counts cleared, the words of records given up set to 0, every other word
-- kept; chains that hold on a table's first words hold on any table with these words. Assumes nothing.
use mathlib.Core.Path.{◌≡◌, refl, ◌∙◌}
use mathlib.Core.Logic.{◌≢◌}
use mathlib.Core.List.{List, [], ◌∷◌}
use Prim.Native.Nat.{ℕ, zero, suc, ◌+◌, ◌-◌, ◌*◌, ◌≤◌, ◌<◌}
use native.Mathlib.Omega.{arith}
use lib.ListN.{length, replicate, length-replicate, get_or-replicate}
use lib.Seq.{sets, length-sets}
use lib.Dec.{eqb}
use borrow.Author.Tests.{eqb-true, eqb-false}
use Rattle.store.specs.declared.Position.{Position}
use Rattle.store.specs.Shared.{below}
use Rattle.store.specs.Tables.{word, off, statement_words, resource_words, term_at}
use Rattle.store.specs.Tables.{first_at, count_at, offset_at, kind_at, live_at}
use Rattle.store.specs.Soundness.{holding, living, Linked}
use Rattle.store.specs.Walk.{entry_at}
use Rattle.store.specs.Reclaim.{unlinked, blanked}
use Rattle.store.proofs.Tests.{decide, three, off-lt}
use Rattle.store.proofs.Words.{get_d_sets_before, get_d-sets-after, get_d-sets-in, same-term, same_next, same_flag}
use Rattle.store.proofs.Links.{chain-cong, live-cong}
use Rattle.store.proofs.StatementsAgree.{entry-same}

-- ---- links and counts cleared

abbrev six : List ℕ
six = 0 ∷ 0 ∷ 0 ∷ 0 ∷ 0 ∷ 0 ∷ []

abbrev triplet : List ℕ
triplet = 0 ∷ 0 ∷ 0 ∷ []

module _ (res : List ℕ) where
  abbrev half : ℕ → List ℕ
  half r = sets (unlinked r res) (resource_words * r) six

  pub unlinked-length : (r : ℕ) → length (unlinked r res) ≡ length res
  unfolding unlinked
  unlinked-length zero = refl
  unlinked-length (suc r) =
      length-sets (half r) (resource_words * r + 8) triplet ∙ length-sets (unlinked r res) (resource_words * r) six
      ∙ unlinked-length r

  half_length : (r : ℕ) → length (half r) ≡ length res
  half_length r = length-sets (unlinked r res) (resource_words * r) six ∙ unlinked-length r

  -- one record more: the words before it and after it, and its offset and kind
  one-before : (r k : ℕ) → k < resource_words * r → word (unlinked (suc r) res) k ≡ word (unlinked r res) k
  unfolding unlinked
  one-before r k h =
      get_d_sets_before triplet (half r) (resource_words * r + 8) k 0 (omega arith)
      ∙ get_d_sets_before six (unlinked r res) (resource_words * r) k 0 h

  one-after : (r k : ℕ) → resource_words * suc r ≤ k → word (unlinked (suc r) res) k ≡ word (unlinked r res) k
  unfolding unlinked
  one-after r k h =
      get_d-sets-after triplet (half r) (resource_words * r + 8) k 0 (omega arith)
      ∙ get_d-sets-after six (unlinked r res) (resource_words * r) k 0 (omega arith)

  one-between : (r k : ℕ) → resource_words * r + 6 ≤ k → k < resource_words * r + 8
      → word (unlinked (suc r) res) k ≡ word (unlinked r res) k
  unfolding unlinked
  one-between r k h g =
      get_d_sets_before triplet (half r) (resource_words * r + 8) k 0 g
      ∙ get_d-sets-after six (unlinked r res) (resource_words * r) k 0 (omega arith)

  -- its six links and counts, its three live counts
  one-low : (r k : ℕ) → resource_words * suc r ≤ length res → k < 6
      → word (unlinked (suc r) res) (resource_words * r + k) ≡ 0
  unfolding unlinked
  one-low r k h g =
      get_d_sets_before triplet (half r) (resource_words * r + 8) (resource_words * r + k) 0 (omega arith)
      ∙ get_d-sets-in six (unlinked r res) (resource_words * r) k 0 (omega (arith, unlinked-length r)) g
      ∙ get_or-replicate 6 k 0 0 g

  one-high : (r k : ℕ) → resource_words * suc r ≤ length res → k < 3
      → word (unlinked (suc r) res) (resource_words * r + (8 + k)) ≡ 0
  unfolding unlinked
  one-high r k h g =
      let e : resource_words * r + (8 + k) ≡ resource_words * r + 8 + k = omega arith in
      rw e (get_d-sets-in triplet (half r) (resource_words * r + 8) k 0 (omega (arith, half_length r)) g
      ∙ get_or-replicate 3 k 0 0 g)

  -- ---- r records

  pub unlinked-past : (r k : ℕ) → resource_words * r ≤ k → word (unlinked r res) k ≡ word res k
  unlinked-past zero k h = unfold unlinked in refl
  unlinked-past (suc r) k h = one-after r k h ∙ unlinked-past r k (omega arith)

  unlinked-tail : (r k y : ℕ) → 6 ≤ k → k < 8 → 0 < y
      → word (unlinked r res) (resource_words * (y - 1) + k) ≡ word res (resource_words * (y - 1) + k)
  unlinked-tail zero k y a b h = unfold unlinked in refl
  unlinked-tail (suc r) k y a b h =
      three (y - 1) r
      (λ q. one-before r (resource_words * (y - 1) + k) (omega arith))
      (λ q. one-between r (resource_words * (y - 1) + k) (omega arith) (omega arith))
      (λ q. one-after r (resource_words * (y - 1) + k) (omega arith))
      ∙ unlinked-tail r k y a b h

  pub unlinked-offset : (r y : ℕ) → 0 < y → offset_at (unlinked r res) y ≡ offset_at res y
  unfolding offset_at
  unlinked-offset r y h = unlinked-tail r 6 y (omega arith) (omega arith) h

  pub unlinked-kind : (r y : ℕ) → 0 < y → kind_at (unlinked r res) y ≡ kind_at res y
  unfolding kind_at
  unlinked-kind r y h = unlinked-tail r 7 y (omega arith) (omega arith) h

  -- a word that is cleared in one record is 0 in each
  unlinked-zero : (k : ℕ) → k < resource_words
      → ((r : ℕ) → resource_words * suc r ≤ length res → word (unlinked (suc r) res) (resource_words * r + k) ≡ 0)
      → (r y : ℕ) → resource_words * r ≤ length res → 0 < y → y ≤ r
      → word (unlinked r res) (resource_words * (y - 1) + k) ≡ 0
  unlinked-zero k l one zero y fit h q = absurd (omega arith)
  unlinked-zero k l one (suc r) y fit h q =
      decide (eqb (y - 1) r)
      (λ e. rw (eqb-true (y - 1) r e) (one r fit))
      (λ e. let n : y - 1 ≢ r = eqb-false (y - 1) r e in
      one-before r (resource_words * (y - 1) + k) (omega arith)
      ∙ unlinked-zero k l one r y (omega arith) h (omega arith))

  -- no statement is linked
  pub unlinked-linked : (r : ℕ) (stm : List ℕ) → resource_words * r ≤ length res → Linked r 0 (unlinked r res) stm
  unfolding first_at count_at live_at below
  unlinked-linked r stm fit = record {
    fit-resources = rw (unlinked-length r) fit;
    fit-statements = omega arith;
    low = λ p i h. absurd (omega arith);
    high = λ p i h. absurd (omega arith);
    flag = λ i h. absurd (omega arith);
    next = λ p i h. absurd (omega arith);
    first = λ p y h q. unlinked-zero (off p) (omega (arith, off-lt p))
        (λ j f. one-low j (off p) f (omega (arith, off-lt p))) r y fit h q;
    count = λ p y h q. unlinked-zero (3 + off p) (omega (arith, off-lt p))
        (λ j f. one-low j (3 + off p) f (omega (arith, off-lt p))) r y fit h q;
    live = λ p y h q. unlinked-zero (8 + off p) (omega (arith, off-lt p))
        (λ j f. one-high j (off p) f (off-lt p)) r y fit h q;
  }

-- ---- the words of records given up

module _ (t n : ℕ) (stm : List ℕ) where
  pub blanked-length : length (blanked t n stm) ≡ length stm
  unfolding blanked
  blanked-length = length-sets stm (statement_words * t) (replicate (statement_words * (n - t)) 0)

  pub blanked-before : (k : ℕ) → k < statement_words * t → word (blanked t n stm) k ≡ word stm k
  unfolding blanked
  blanked-before k h = get_d_sets_before (replicate (statement_words * (n - t)) 0) stm (statement_words * t) k 0 h

  pub blanked-after : t ≤ n → (k : ℕ) → statement_words * n ≤ k → word (blanked t n stm) k ≡ word stm k
  unfolding blanked
  blanked-after le k h =
      get_d-sets-after (replicate (statement_words * (n - t)) 0) stm (statement_words * t) k 0
      (omega (arith, length-replicate {A = ℕ} (statement_words * (n - t)) 0))

  pub blanked-in : statement_words * n ≤ length stm → (k : ℕ) → statement_words * t ≤ k → k < statement_words * n
      → word (blanked t n stm) k ≡ 0
  unfolding blanked
  blanked-in fit k a b =
      let len = length-replicate {A = ℕ} (statement_words * (n - t)) 0 in
      let e : k ≡ statement_words * t + (k - statement_words * t) = omega arith in
      rw e (get_d-sets-in (replicate (statement_words * (n - t)) 0) stm (statement_words * t) (k - statement_words * t) 0
      (omega arith) (omega arith)
      ∙ get_or-replicate (statement_words * (n - t)) (k - statement_words * t) 0 0 (omega arith))

-- ---- the same first words, the same statements and chains

module _ (t : ℕ) (stm stm' : List ℕ) (same : (k : ℕ) → k < statement_words * t → word stm' k ≡ word stm k) where
  pub same-entry : (i : ℕ) → i < t → entry_at stm' i ≡ entry_at stm i
  same-entry i h = entry-same stm stm' i (λ p. same-term t stm stm' same p i h) (same_flag t stm stm' same i h)

  same-chain : (p : Position) (y n : ℕ) → n ≤ t → below (holding stm' p y) n ≡ below (holding stm p y) n
  same-chain p y n h = chain-cong stm stm' p y n (λ i q. same-term t stm stm' same p i (omega arith))

  same_live : (p : Position) (y n : ℕ) → n ≤ t → below (living stm' p y) n ≡ below (living stm p y) n
  same_live p y n h =
      live-cong stm stm' p y n (λ i q. same_flag t stm stm' same i (omega arith))
      (λ i q. same-term t stm stm' same p i (omega arith))

  pub same-linked : (r : ℕ) (res : List ℕ) → length stm' ≡ length stm → Linked r t res stm → Linked r t res stm'
  same-linked r res len L = record {
    fit-resources = L.fit-resources;
    fit-statements = rw len L.fit-statements;
    low = λ p i h. rw (same-term t stm stm' same p i h) (L.low p i h);
    high = λ p i h. rw (same-term t stm stm' same p i h) (L.high p i h);
    flag = λ i h. rw (same_flag t stm stm' same i h) (L.flag i h);
    next = λ p i h. rw (
      same_next t stm stm' same p i h,
      same-term t stm stm' same p i h,
      same-chain p (term_at stm p i) i (omega arith),
    )
        (L.next p i h);
    first = λ p y h q. rw (same-chain p y t (omega arith)) (L.first p y h q);
    count = λ p y h q. rw (same-chain p y t (omega arith)) (L.count p y h q);
    live = λ p y h q. rw (same_live p y t (omega arith)) (L.live p y h q);
  }
