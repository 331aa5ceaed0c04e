-- Words of the tables after a store: what was written is read back, every other word stays, for a position in general.
-- One new statement record, its links in three resource records, one flag, three live counts, one new resource record.
-- Assumes nothing.
use mathlib.Core.Path.{◌≡◌, refl, ◌∙◌}
use mathlib.Core.Logic.{◌≢◌}
use mathlib.Core.Bool.{cond}
use mathlib.Core.List.{List, [], ◌∷◌}
use Prim.Native.Nat.{ℕ, zero, suc, ◌+◌, ◌-◌, ◌*◌, ◌≤◌, ◌<◌}
use native.Mathlib.Omega.{arith}
use native.Mathlib.Nat.{add-zero, add-suc, suc-add}
use lib.ListN.{length, get_or, set, length-set}
use lib.Seq.{sets, length-sets, get_or-set_same, get_or-set_other}
use lib.Dec.{eqb}
use borrow.Author.Tests.{eqb-true, eqb-false}
use Rattle.store.specs.declared.Position.{Position}
use Rattle.store.specs.declared.Position.TheVariants.{Subject, Predicate, Object}
use Rattle.store.specs.declared.Triple.{Triple}
use Rattle.store.specs.Shared.{at}
use Rattle.store.specs.Tables.{word, off, statement_words, resource_words, term_at, next_at, flag_at, triple_at}
use Rattle.store.specs.Tables.{first_at, count_at, offset_at, kind_at, live_at}
use Rattle.store.specs.Statement.{record_words, append_record, link_first, link_record, tally_at, tally}
use Rattle.store.specs.Dictionary.{fresh_record}
use Rattle.store.proofs.Tests.{decide, off-lt}

-- ---- a run of stores, read back

pub get_d_sets_before : (vs l : List ℕ) (i k d : ℕ) → k < i → get_or (sets l i vs) k d ≡ get_or l k d
get_d_sets_before [] l i k d h = refl
get_d_sets_before (v ∷ vs) l i k d h =
    get_d_sets_before vs (set l i v) (suc i) k d (omega arith) ∙ get_or-set_other l i k v d (omega arith)

pub get_d-sets-after : (vs l : List ℕ) (i k d : ℕ) → i + length vs ≤ k → get_or (sets l i vs) k d ≡ get_or l k d
get_d-sets-after [] l i k d h = refl
get_d-sets-after (v ∷ vs) l i k d h =
    get_d-sets-after vs (set l i v) (suc i) k d (omega arith) ∙ get_or-set_other l i k v d (omega arith)

pub get_d-sets-in : (vs l : List ℕ) (i j d : ℕ) → i + length vs ≤ length l → j < length vs
    → get_or (sets l i vs) (i + j) d ≡ get_or vs j d
get_d-sets-in [] l i j d h q = absurd (omega arith)
get_d-sets-in (v ∷ vs) l i zero d h q =
    rw add-zero (get_d_sets_before vs (set l i v) (suc i) i d (omega arith) ∙ get_or-set_same l i v d (omega arith))
get_d-sets-in (v ∷ vs) l i (suc j) d h q =
    rw (add-suc, ← suc-add) (get_d-sets-in vs (set l i v) (suc i) j d (rw length-set (omega arith)) (omega arith))

-- ---- an entry's triple

pub triple-at : (stm : List ℕ) (p : Position) (i : ℕ) → at p (triple_at stm i) ≡ term_at stm p i
unfolding triple_at
triple-at stm Subject i = refl
triple-at stm Predicate i = refl
triple-at stm Object i = refl

pub triple-same : (stm stm' : List ℕ) (i : ℕ) → ((p : Position) → term_at stm' p i ≡ term_at stm p i)
    → triple_at stm' i ≡ triple_at stm i
unfolding triple_at
triple-same stm stm' i h = rw (h Subject, h Predicate, h Object)

pub triple-of : (stm : List ℕ) (i : ℕ) (x : Triple) → ((p : Position) → term_at stm p i ≡ at p x) → triple_at stm i ≡ x
unfolding triple_at
triple-of stm i x h = rw (h Subject, h Predicate, h Object)

-- ---- the same first words, the same statements

module _ (t : ℕ) (stm stm' : List ℕ) (same : (k : ℕ) → k < statement_words * t → word stm' k ≡ word stm k) where
  pub same-term : (p : Position) (i : ℕ) → i < t → term_at stm' p i ≡ term_at stm p i
  unfolding term_at
  same-term p i h = same (statement_words * i + off p) (omega (arith, off-lt p))

  pub same_next : (p : Position) (i : ℕ) → i < t → next_at stm' p i ≡ next_at stm p i
  unfolding next_at
  same_next p i h = same (statement_words * i + (3 + off p)) (omega (arith, off-lt p))

  pub same_flag : (i : ℕ) → i < t → flag_at stm' i ≡ flag_at stm i
  unfolding flag_at
  same_flag i h = same (statement_words * i + 6) (omega arith)

-- ---- a new statement record in entry t

module _ (t : ℕ) (x : Triple) (res stm : List ℕ) where
  pub append-length : length (append_record t x res stm) ≡ length stm
  unfolding append_record
  append-length = length-sets stm (statement_words * t) (record_words x res)

  pub append-word-before : (k : ℕ) → k < statement_words * t → word (append_record t x res stm) k ≡ word stm k
  unfolding append_record
  append-word-before k h = get_d_sets_before (record_words x res) stm (statement_words * t) k 0 h

  pub append-word-after : (k : ℕ) → statement_words * suc t ≤ k → word (append_record t x res stm) k ≡ word stm k
  unfolding append_record
  append-word-after k h = get_d-sets-after (record_words x res) stm (statement_words * t) k 0 (omega arith)

  pub append-term-old : (p : Position) (i : ℕ) → i < t → term_at (append_record t x res stm) p i ≡ term_at stm p i
  append-term-old = same-term t stm (append_record t x res stm) append-word-before

  pub append-next-old : (p : Position) (i : ℕ) → i < t → next_at (append_record t x res stm) p i ≡ next_at stm p i
  append-next-old = same_next t stm (append_record t x res stm) append-word-before

  pub append-flag-old : (i : ℕ) → i < t → flag_at (append_record t x res stm) i ≡ flag_at stm i
  append-flag-old = same_flag t stm (append_record t x res stm) append-word-before

  module _ (room : statement_words * suc t ≤ length stm) where
    append-new : (k : ℕ) → k < statement_words
        → word (append_record t x res stm) (statement_words * t + k) ≡ word (record_words x res) k
    unfolding append_record
    append-new k h = get_d-sets-in (record_words x res) stm (statement_words * t) k 0 (omega arith) (omega arith)

    pub append-term : (p : Position) → term_at (append_record t x res stm) p t ≡ at p x
    unfolding term_at
    append-term Subject = append-new 0 (omega arith)
    append-term Predicate = append-new 1 (omega arith)
    append-term Object = append-new 2 (omega arith)

    pub append-next : (p : Position) → next_at (append_record t x res stm) p t ≡ first_at res p (at p x)
    unfolding next_at
    append-next Subject = append-new 3 (omega arith)
    append-next Predicate = append-new 4 (omega arith)
    append-next Object = append-new 5 (omega arith)

    pub append-flag : flag_at (append_record t x res stm) t ≡ 0
    unfolding flag_at
    append-flag = append-new 6 (omega arith)

-- ---- a change at one position of a resource, then at the three positions of a triple

-- At the position q of the resource y the step makes the word that `read` reads `new` of what it was; wherever else
-- `read` reads, the word stays.
record Moves (step : Position → ℕ → List ℕ → List ℕ) (read : List ℕ → Position → ℕ → ℕ) (new : ℕ → ℕ) : Type 0 where
  len : (q : Position) (y : ℕ) (res : List ℕ) → length (step q y res) ≡ length res
  same : (q : Position) (y : ℕ) (res : List ℕ) → 0 < y → resource_words * y ≤ length res
      → read (step q y res) q y ≡ new (read res q y)
  apart : (q : Position) (y : ℕ) (res : List ℕ) (p : Position) (z : ℕ) → 0 < y → 0 < z
      → resource_words * (z - 1) + off p ≢ resource_words * (y - 1) + off q
      → read (step q y res) p z ≡ read res p z

module _ (step : Position → ℕ → List ℕ → List ℕ) (read : List ℕ → Position → ℕ → ℕ) (new : ℕ → ℕ)
    (M : Moves step read new) where
  -- another position
  moves-other : (q : Position) (y : ℕ) (res : List ℕ) (p : Position) (z : ℕ) → 0 < y → 0 < z → off p ≢ off q
      → read (step q y res) p z ≡ read res p z
  moves-other q y res p z a h n = M.apart q y res p z a h (omega (arith, off-lt p, off-lt q))

  moves-at : (q : Position) (y : ℕ) (res : List ℕ) → 0 < y → resource_words * y ≤ length res → (z : ℕ) → 0 < z
      → read (step q y res) q z ≡ cond (eqb y z) (new (read res q z)) (read res q z)
  moves-at q y res a room z h =
      decide (eqb y z)
      (λ e. rw (e, ← eqb-true y z e) (M.same q y res a room))
      (λ e. let n : y ≢ z = eqb-false y z e in rw e (M.apart q y res q z a h (omega arith)))

  module _ (x : Triple) (res : List ℕ) (pos : (p : Position) → 0 < at p x)
      (room : (p : Position) → resource_words * at p x ≤ length res) where
    abbrev one : List ℕ
    one = step Subject x.subject.0 res

    abbrev two : List ℕ
    two = step Predicate x.predicate.0 one

    room-one : (p : Position) → resource_words * at p x ≤ length one
    room-one p = rw (M.len Subject x.subject.0 res) (room p)

    room-two : (p : Position) → resource_words * at p x ≤ length two
    room-two p = rw (M.len Predicate x.predicate.0 one) (room-one p)

    moves_each : (p : Position) (y : ℕ) → 0 < y
        → read (step Object x.object.0 two) p y ≡ cond (eqb (at p x) y) (new (read res p y)) (read res p y)
    moves_each Subject y h =
        rw (
          moves-other Object x.object.0 two Subject y (pos Object) h (omega arith),
          moves-other Predicate x.predicate.0 one Subject y (pos Predicate) h (omega arith),
          moves-at Subject x.subject.0 res (pos Subject) (room Subject) y h,
        )
    moves_each Predicate y h =
        rw (
          moves-other Object x.object.0 two Predicate y (pos Object) h (omega arith),
          moves-at Predicate x.predicate.0 one (pos Predicate) (room-one Predicate) y h,
          moves-other Subject x.subject.0 res Predicate y (pos Subject) h (omega arith),
        )
    moves_each Object y h =
        rw (
          moves-at Object x.object.0 two (pos Object) (room-two Object) y h,
          moves-other Predicate x.predicate.0 one Object y (pos Predicate) h (omega arith),
          moves-other Subject x.subject.0 res Object y (pos Subject) h (omega arith),
        )

-- ---- the resource table after a link at one position of the resource y

module _ (q : Position) (t y : ℕ) (res : List ℕ) where
  pub link-length : length (link_first q t y res) ≡ length res
  unfolding link_first
  link-length = simp length-set

  -- any word but the three
  link-skip : (k : ℕ) → k ≢ resource_words * (y - 1) + off q → k ≢ resource_words * (y - 1) + (3 + off q)
      → k ≢ resource_words * (y - 1) + (8 + off q)
      → word (link_first q t y res) k ≡ word res k
  unfolding link_first
  link-skip k h g l = rw (get_or-set_other, get_or-set_other, get_or-set_other)

module _ (t : ℕ) where
  abbrev link_at : Position → ℕ → List ℕ → List ℕ
  link_at q y res = link_first q t y res

  link-firsts : Moves link_at first_at (λ n. suc t)
  unfolding link_first first_at
  link-firsts = record {
    len = λ q y res. link-length q t y res;
    same = λ q y res a room.
        let i : resource_words * (y - 1) + off q < length res = omega (arith, off-lt q) in
        let n : resource_words * (y - 1) + off q ≢ resource_words * (y - 1) + (3 + off q) = omega arith in
        let l : resource_words * (y - 1) + off q ≢ resource_words * (y - 1) + (8 + off q) = omega arith in
        rw (get_or-set_other, get_or-set_other, get_or-set_same);
    apart = λ q y res p z a h n.
        link-skip q t y res _ n (omega (arith, off-lt p, off-lt q)) (omega (arith, off-lt p, off-lt q));
  }

  link-counts : Moves link_at count_at suc
  unfolding link_first count_at
  link-counts = record {
    len = λ q y res. link-length q t y res;
    same = λ q y res a room.
        let i : resource_words * (y - 1) + (3 + off q) < length (set res (resource_words * (y - 1) + off q) (suc t)) =
        rw length-set (omega (arith, off-lt q)) in
        let l : resource_words * (y - 1) + (3 + off q) ≢ resource_words * (y - 1) + (8 + off q) = omega arith in
        rw (get_or-set_other, get_or-set_same);
    apart = λ q y res p z a h n.
        link-skip q t y res _ (omega (arith, off-lt p, off-lt q)) (omega (arith, off-lt p, off-lt q))
        (omega (arith, off-lt p, off-lt q));
  }

  link-lives : Moves link_at live_at suc
  unfolding link_first live_at
  link-lives = record {
    len = λ q y res. link-length q t y res;
    same = λ q y res a room.
        let i : resource_words * (y - 1) + (8 + off q)
        < length (set (set res (resource_words * (y - 1) + off q) (suc t)) (resource_words * (y - 1) + (3 + off q))
        (suc (count_at res q y))) = rw (length-set, length-set) (omega (arith, off-lt q)) in
        rw get_or-set_same;
    apart = λ q y res p z a h n.
        link-skip q t y res _ (omega (arith, off-lt p, off-lt q)) (omega (arith, off-lt p, off-lt q))
        (omega (arith, off-lt p, off-lt q));
  }

-- for code: a link leaves what another position asks
module _ (q : Position) (t y : ℕ) (res : List ℕ) (pos : 0 < y) (room : resource_words * y ≤ length res)
    (p : Position) (z : ℕ) (h : 0 < z) (n : off p ≢ off q) where
  pub link-count-other : count_at (link_first q t y res) p z ≡ count_at res p z
  link-count-other = moves-other _ _ _ (link-counts t) q y res p z pos h n

  pub link-live-other : live_at (link_first q t y res) p z ≡ live_at res p z
  link-live-other = moves-other _ _ _ (link-lives t) q y res p z pos h n

-- ---- the resource table after a new statement record's three links

module _ (t : ℕ) (x : Triple) (res : List ℕ) where
  pub linked-length : length (link_record t x res) ≡ length res
  unfolding link_record
  linked-length =
      link-length Object t x.object.0 _ ∙ link-length Predicate t x.predicate.0 _
      ∙ link-length Subject t x.subject.0 res

  -- any word but the nine
  linked-skip : (k : ℕ) → ((p : Position) → (k ≢ resource_words * (at p x - 1) + off p)
      × (k ≢ resource_words * (at p x - 1) + (3 + off p)) × (k ≢ resource_words * (at p x - 1) + (8 + off p)))
      → word (link_record t x res) k ≡ word res k
  unfolding link_record
  linked-skip k h =
      link-skip Object t x.object.0 _ k (h Object).0 (h Object).1 (h Object).2
      ∙ link-skip Predicate t x.predicate.0 _ k (h Predicate).0 (h Predicate).1 (h Predicate).2
      ∙ link-skip Subject t x.subject.0 res k (h Subject).0 (h Subject).1 (h Subject).2

module _ (t : ℕ) (x : Triple) (res : List ℕ) (pos : (p : Position) → 0 < at p x)
    (room : (p : Position) → resource_words * at p x ≤ length res) where
  pub linked-first : (p : Position) (y : ℕ) → 0 < y
      → first_at (link_record t x res) p y ≡ cond (eqb (at p x) y) (suc t) (first_at res p y)
  unfolding link_record
  linked-first = moves_each _ _ _ (link-firsts t) x res pos room

  pub linked-count : (p : Position) (y : ℕ) → 0 < y
      → count_at (link_record t x res) p y ≡ cond (eqb (at p x) y) (suc (count_at res p y)) (count_at res p y)
  unfolding link_record
  linked-count = moves_each _ _ _ (link-counts t) x res pos room

  pub linked-live : (p : Position) (y : ℕ) → 0 < y
      → live_at (link_record t x res) p y ≡ cond (eqb (at p x) y) (suc (live_at res p y)) (live_at res p y)
  unfolding link_record
  linked-live = moves_each _ _ _ (link-lives t) x res pos room

  -- offset and kind stay
  linked-tail : (k y : ℕ) → 6 ≤ k → k < 8 → 0 < y
      → word (link_record t x res) (resource_words * (y - 1) + k) ≡ word res (resource_words * (y - 1) + k)
  linked-tail k y a b h =
      linked-skip t x res (resource_words * (y - 1) + k)
      (λ p. (omega (arith, pos p, off-lt p), omega (arith, pos p, off-lt p), omega (arith, pos p, off-lt p)))

  -- words past the resources that are in range
  pub linked-past : (r : ℕ) → ((p : Position) → at p x ≤ r) → (k : ℕ) → resource_words * r ≤ k
      → word (link_record t x res) k ≡ word res k
  linked-past r high k h =
      linked-skip t x res k (λ p. (
        omega (arith, pos p, high p, off-lt p),
        omega (arith, pos p, high p, off-lt p),
        omega (arith, pos p, high p, off-lt p),
      ))

  pub linked-offset : (y : ℕ) → 0 < y → offset_at (link_record t x res) y ≡ offset_at res y
  unfolding offset_at
  linked-offset y h = linked-tail 6 y (omega arith) (omega arith) h

  pub linked-kind : (y : ℕ) → 0 < y → kind_at (link_record t x res) y ≡ kind_at res y
  unfolding kind_at
  linked-kind y h = linked-tail 7 y (omega arith) (omega arith) h

-- ---- the resource table after a change of one live count, then of three

module _ (f : ℕ → ℕ) (q : Position) (y : ℕ) (res : List ℕ) where
  pub tally_at-length : length (tally_at f q y res) ≡ length res
  unfolding tally_at
  tally_at-length = simp length-set

  tally_at-skip : (k : ℕ) → k ≢ resource_words * (y - 1) + (8 + off q) → word (tally_at f q y res) k ≡ word res k
  unfolding tally_at
  tally_at-skip k h = rw get_or-set_other

tally-lives : (f : ℕ → ℕ) → Moves (tally_at f) live_at f
unfolding tally_at live_at
tally-lives f = record {
  len = tally_at-length f;
  same = λ q y res a room.
      get_or-set_same res (resource_words * (y - 1) + (8 + off q)) _ 0 (omega (arith, off-lt q));
  apart = λ q y res p z a h n. tally_at-skip f q y res _ (omega (arith, off-lt p, off-lt q));
}

-- for code: a change of one live count leaves another position's
pub tally_at-other : (f : ℕ → ℕ) (q : Position) (y : ℕ) (res : List ℕ) → 0 < y → resource_words * y ≤ length res
    → (p : Position) (z : ℕ) → 0 < z → off p ≢ off q → live_at (tally_at f q y res) p z ≡ live_at res p z
tally_at-other f q y res pos room p z h n = moves-other _ _ _ (tally-lives f) q y res p z pos h n

module _ (f : ℕ → ℕ) (x : Triple) (res : List ℕ) where
  pub tally-length : length (tally f x res) ≡ length res
  unfolding tally
  tally-length =
      tally_at-length f Object x.object.0 _ ∙ tally_at-length f Predicate x.predicate.0 _
      ∙ tally_at-length f Subject x.subject.0 res

module _ (f : ℕ → ℕ) (x : Triple) (res : List ℕ) (pos : (p : Position) → 0 < at p x)
    (room : (p : Position) → resource_words * at p x ≤ length res) where
  pub tally-live : (p : Position) (y : ℕ) → 0 < y
      → live_at (tally f x res) p y ≡ cond (eqb (at p x) y) (f (live_at res p y)) (live_at res p y)
  unfolding tally
  tally-live = moves_each _ _ _ (tally-lives f) x res pos room

  -- the first eight words of a record stay
  tally-skip : (k y : ℕ) → k < 8 → 0 < y
      → word (tally f x res) (resource_words * (y - 1) + k) ≡ word res (resource_words * (y - 1) + k)
  unfolding tally
  tally-skip k y b h =
      tally_at-skip f Object x.object.0 _ (resource_words * (y - 1) + k) (omega (arith, pos Object))
      ∙ tally_at-skip f Predicate x.predicate.0 _ (resource_words * (y - 1) + k) (omega (arith, pos Predicate))
      ∙ tally_at-skip f Subject x.subject.0 res (resource_words * (y - 1) + k) (omega (arith, pos Subject))

  pub tally-first : (p : Position) (y : ℕ) → 0 < y → first_at (tally f x res) p y ≡ first_at res p y
  unfolding first_at
  tally-first p y h = tally-skip (off p) y (omega (arith, off-lt p)) h

  pub tally-count : (p : Position) (y : ℕ) → 0 < y → count_at (tally f x res) p y ≡ count_at res p y
  unfolding count_at
  tally-count p y h = tally-skip (3 + off p) y (omega (arith, off-lt p)) h

  pub tally-offset : (y : ℕ) → 0 < y → offset_at (tally f x res) y ≡ offset_at res y
  unfolding offset_at
  tally-offset y h = tally-skip 6 y (omega arith) h

  pub tally-kind : (y : ℕ) → 0 < y → kind_at (tally f x res) y ≡ kind_at res y
  unfolding kind_at
  tally-kind y h = tally-skip 7 y (omega arith) h

-- ---- the flag of entry i

module _ (stm : List ℕ) (i v : ℕ) where
  abbrev flagged : List ℕ
  flagged = set stm (statement_words * i + 6) v

  flag-skip : (k j : ℕ) → k < 6 → word flagged (statement_words * j + k) ≡ word stm (statement_words * j + k)
  flag-skip k j h = get_or-set_other stm (statement_words * i + 6) (statement_words * j + k) v 0 (omega arith)

  pub flag-term : (p : Position) (j : ℕ) → term_at flagged p j ≡ term_at stm p j
  unfolding term_at
  flag-term p j = flag-skip (off p) j (omega (arith, off-lt p))

  pub flag-next : (p : Position) (j : ℕ) → next_at flagged p j ≡ next_at stm p j
  unfolding next_at
  flag-next p j = flag-skip (3 + off p) j (omega (arith, off-lt p))

  pub flag_same : statement_words * suc i ≤ length stm → flag_at flagged i ≡ v
  unfolding flag_at
  flag_same h = get_or-set_same stm (statement_words * i + 6) v 0 (omega arith)

  pub flag-other : (j : ℕ) → j ≢ i → flag_at flagged j ≡ flag_at stm j
  unfolding flag_at
  flag-other j h = get_or-set_other stm (statement_words * i + 6) (statement_words * j + 6) v 0 (omega arith)

-- ---- a new resource record: zeros, an offset and a kind, zeros

-- no first, no count and no live count
pub zero-links : (o d : ℕ) (p : Position)
    → (word (fresh_record o d) (off p) ≡ 0) × (word (fresh_record o d) (3 + off p) ≡ 0)
    × (word (fresh_record o d) (8 + off p) ≡ 0)
zero-links o d Subject = (refl, refl, refl)
zero-links o d Predicate = (refl, refl, refl)
zero-links o d Object = (refl, refl, refl)

module _ (r : ℕ) (res : List ℕ) (o d : ℕ) where
  abbrev grown : List ℕ
  grown = sets res (resource_words * r) (fresh_record o d)

  pub grow-length : length grown ≡ length res
  grow-length = length-sets res (resource_words * r) (fresh_record o d)

  pub grow-before : (k : ℕ) → k < resource_words * r → word grown k ≡ word res k
  grow-before k h = get_d_sets_before (fresh_record o d) res (resource_words * r) k 0 h

  pub grow-after : (k : ℕ) → resource_words * suc r ≤ k → word grown k ≡ word res k
  grow-after k h = get_d-sets-after (fresh_record o d) res (resource_words * r) k 0 (omega arith)

  -- a word of the resource y in 1..r
  pub grow-old : (k y : ℕ) → k < resource_words → 0 < y → y ≤ r
      → word grown (resource_words * (y - 1) + k) ≡ word res (resource_words * (y - 1) + k)
  grow-old k y h a b = grow-before (resource_words * (y - 1) + k) (omega arith)

  -- a word of the new one
  pub grow-new : resource_words * suc r ≤ length res → (k : ℕ) → k < resource_words
      → word grown (resource_words * (suc r - 1) + k) ≡ word (fresh_record o d) k
  grow-new room k h =
      let e : resource_words * (suc r - 1) + k ≡ resource_words * r + k = omega arith in
      rw e (get_d-sets-in (fresh_record o d) res (resource_words * r) k 0 (omega arith) (omega arith))
