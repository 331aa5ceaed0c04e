-- What the listing and the writing leave: a law for each turn and each way out of the code. Assumes nothing.
use mathlib.Core.Path.{◌≡◌, refl, sym, ap, ◌∙◌}
use mathlib.Core.List.{List, [], ◌∷◌, ◌++◌, append_assoc}
use Prim.Native.Nat.{ℕ, zero, suc, ◌+◌, ◌-◌, ◌≤◌, ◌<◌}
use native.Mathlib.Nat.{add-zero, add-suc, suc-add}
use native.Mathlib.Omega.{arith}
use native.Mathlib.Numerals.{add-one}
use lib.ListN.{length, take, drop, get_or, set, length-append, drop_of_length-le}
use lib.Seq.{sets, length-sets, drop-cons}
use Rattle.std.proofs.lemmas.List.{drop-drop}
use Rattle.std.proofs.lemmas.List.Edits.{sets-eq}
use borrow.Rule.Slice.PartMut.{put_mid}
use Rattle.find_byte.specs.Place.{index_of, slice}
use Rattle.integrity.specs.Names.{name_from as held_name}
use Rattle.integrity.proofs.Scanning.{name-found, name-slice}
use Rattle.store.specs.declared.Triple.{Triple}
use Rattle.store.specs.Shared.{below}
use Rattle.store.specs.Tables.{triple_at, offset_at}
use Rattle.store.specs.Names.{name_at}
use Rattle.store.specs.Soundness.{is_live}
use Rattle.store.proofs.Tests.{decide}
use Rattle.graph.specs.Graph.{named}
use Rattle.lines.specs.Export.{line_of, line_at, join_lines}
use Rattle.line_order.specs.Rests.{line_in, name_from, TripleNamed, Printable}
use Rattle.exporter.specs.Printed.{Wrote, if_live, lines_in}

-- ---- a list written part by part

sets-append : (xs ys l : List ℕ) (i : ℕ) → sets l i (xs ++ ys) ≡ sets (sets l i xs) (i + length xs) ys
sets-append [] ys l i = rw add-zero
sets-append (x ∷ xs) ys l i = rw (add-suc, ← suc-add) (sets-append xs ys (set l i x) (suc i))

-- one word
pub wrote_one : (out : List ℕ) (to x : ℕ) → Wrote out to (x ∷ []) (set out to x) (to + 1)
wrote_one out to x = record { stored = refl; ends = refl }

-- of a list to be written from `at` on, `rest` is left, from `to` on
pub record Writing (start : List ℕ) (at : ℕ) (whole out : List ℕ) (to : ℕ) (rest : List ℕ) : Type 0 where
  pub same_size : length out ≡ length start
  pub left : sets out to rest ≡ sets start at whole
  pub far : to + length rest ≡ at + length whole

pub write-begins : (start whole : List ℕ) (at : ℕ) → Writing start at whole start at whole
write-begins start whole at = record { same_size = refl; left = refl; far = refl }

module _ {start whole out rest : List ℕ} {at to : ℕ} (W : Writing start at whole out to rest) where
  -- one part more
  pub write-on : (part last after : List ℕ) (r : ℕ) → rest ≡ part ++ last → Wrote out to part after r
      → Writing start at whole after r last
  write-on part last after r e w =
      let s = rw (e, sets-append part last out to, ← w.stored, ← w.ends) at W.left in
      let k = rw (e, length-append part last) at W.far in
      record {
        same_size = ap length w.stored ∙ length-sets out to part ∙ W.same_size;
        left = s;
        far = omega (arith, k, w.ends);
      }

  pub write-ends : rest ≡ [] → Wrote start at whole out to
  write-ends e = let s = rw e at W.left in let k = rw e at W.far in record { stored = s; ends = omega arith }

  -- there is room for what is left
  pub write-room : at + length whole ≤ length start → to + length rest ≤ length out
  write-room h = omega (arith, W.same_size, W.far)

-- ---- the live statements, falling

-- those above n are listed, in the first `live` words
pub record Filling (stm : List ℕ) (t : ℕ) (start work : List ℕ) (live n : ℕ) : Type 0 where
  pub room : live + n ≤ t
  pub writing : Writing start 0 (below (is_live stm) t) work live (below (is_live stm) n)

one_more_lem : (stm : List ℕ) (n : ℕ) → 0 < n → below (is_live stm) n ≡ if_live stm n ++ below (is_live stm) (n - 1)
unfolding below
one_more_lem stm zero h = absurd (omega arith)
one_more_lem stm (suc n) h =
    let q : suc n - 1 ≡ n = omega arith in rw q (decide (is_live stm n) (λ e. rw e) (λ e. rw e))

one-most : (stm : List ℕ) (n : ℕ) → length (if_live stm n) ≤ 1
one-most stm n = decide (is_live stm (n - 1)) (λ e. rw e (omega arith)) (λ e. rw e (omega arith))

pub fill_begins : (stm start : List ℕ) (t : ℕ) → Filling stm t start start 0 t
fill_begins stm start t = record { room = omega arith; writing = write-begins start _ 0 }

module _ {stm start work : List ℕ} {t live n : ℕ} (F : Filling stm t start work live n) where
  pub fill-turns : 0 < n → (after : List ℕ) (r : ℕ) → Wrote work live (if_live stm n) after r
      → Filling stm t start after r (n - 1)
  fill-turns h after r w = record {
    room = omega (arith, F.room, w.ends, one-most stm n);
    writing = write-on F.writing _ _ after r (one_more_lem stm n h) w;
  }

  pub fill-ends : n ≡ 0 → Wrote start 0 (below (is_live stm) t) work live
  unfolding below
  fill-ends e = write-ends F.writing (rw e)

-- ---- a name and a blank

module _ (text : List ℕ) (o e : ℕ) (place : e ≡ o + index_of 0 (slice o (length text) text)) where
  -- the zero byte found ends the name
  pub name-ends : e ≡ o + length (name_from text o)
  unfolding held_name
  name-ends = name-found text o e place

  name-copied : take (e - o) (drop o text) ≡ name_from text o
  unfolding held_name
  name-copied = name-slice text o e name-ends

  -- o is the offset that the code has read
  module _ (y at : ℕ) (out : List ℕ) (is : o ≡ y) (room : at + length (name_from text y ++ 32 ∷ []) ≤ length out) where
    pub name-room : at + (e - o) < length out
    name-room =
        let r = rw (← is) at room in
        omega (arith, r, name-ends, length-append (name_from text o) (32 ∷ []))

    pub name_put : (v : List ℕ) → v ≡ take (e - o) (drop o text)
        → Wrote out at (name_from text y ++ 32 ∷ []) (set (put_mid at (at + (e - o) - at) out v) (at + (e - o)) 32) (at + (e - o) + 1)
    name_put v d =
        let w = name_from text o in
        let k : e - o ≡ length w = omega (arith, name-ends) in
        let q : at + length w - at ≡ length w = omega arith in
        let g : at + length w ≤ length out = omega (arith, name-room, k) in
        rw (← is) (record {
          stored = rw (sets-append w (32 ∷ []) out at, sets-eq w out at g, d ∙ name-copied, k, q, drop-drop (length w) at out)
              (ap (λ (z : List ℕ). set z (at + length w) 32) (sym (append_assoc (take at out) w (drop (at + length w) out))));
          ends = omega (arith, k, length-append w (32 ∷ []));
        })

-- ---- a line; x is the triple that the code has read

module _ (res stm text : List ℕ) (n : ℕ) (x : Triple) (is : x ≡ triple_at stm (n - 1)) where
  abbrev name_part : ℕ → List ℕ
  name_part y = name_from text (offset_at res y) ++ 32 ∷ []

  abbrev object_on : List ℕ
  object_on = name_part x.object.0 ++ 46 ∷ 10 ∷ []

  abbrev predicate_on : List ℕ
  predicate_on = name_part x.predicate.0 ++ object_on

  line-parts : line_in res stm text n ≡ name_part x.subject.0 ++ predicate_on
  unfolding line_at line_of named name_at
  line-parts = rw (← is) (simp append_assoc)

  -- what reading the names asks
  pub line-named : Printable res stm text n → TripleNamed res text x
  line-named P = rw is P.triple

  module _ (start : List ℕ) (at : ℕ) (room : at + length (line_in res stm text n) ≤ length start) where
    -- the line is written up to what is left
    abbrev Line : List ℕ → ℕ → List ℕ → Type 0
    Line out to rest = Writing start at (line_in res stm text n) out to rest

    part_room : (part last out : List ℕ) (to : ℕ) → Line out to (part ++ last) → to + length part ≤ length out
    part_room part last out to W = omega (arith, write-room W room, length-append part last)

    line-begins : Line start at (name_part x.subject.0 ++ predicate_on)
    line-begins = rw line-parts (write-begins start _ at)

    pub subject-room : at + length (name_part x.subject.0) ≤ length start
    subject-room = part_room (name_part x.subject.0) predicate_on start at line-begins

    module _ (out : List ℕ) (a : ℕ) (s : Wrote start at (name_part x.subject.0) out a) where
      subject-put : Line out a predicate_on
      subject-put = write-on line-begins _ _ out a refl s

      pub predicate-room : a + length (name_part x.predicate.0) ≤ length out
      predicate-room = part_room (name_part x.predicate.0) object_on out a subject-put

      module _ (out' : List ℕ) (b : ℕ) (p : Wrote out a (name_part x.predicate.0) out' b) where
        predicate-put : Line out' b object_on
        predicate-put = write-on subject-put _ _ out' b refl p

        pub object-room : b + length (name_part x.object.0) ≤ length out'
        object-room = part_room (name_part x.object.0) (46 ∷ 10 ∷ []) out' b predicate-put

        module _ (out'' : List ℕ) (d : ℕ) (o : Wrote out' b (name_part x.object.0) out'' d) where
          object-put : Line out'' d (46 ∷ 10 ∷ [])
          object-put = write-on predicate-put _ _ out'' d refl o

          pub end-room : (d + 2 ≤ length out'') × (d + 2 ≤ length start)
          end-room = let r = write-room object-put room in (r, omega (arith, r, object-put.same_size))

          all-put : Line (set (set out'' d 46) (d + 1) 10) (d + 1 + 1) []
          all-put =
              let w = write-on object-put (46 ∷ []) (10 ∷ []) _ _ refl (wrote_one out'' d 46) in
              write-on w (10 ∷ []) [] _ _ refl (wrote_one (set out'' d 46) (d + 1) 10)

          pub line-size : length (set (set out'' d 46) (d + 1) 10) ≡ length start
          line-size = all-put.same_size

          pub line-put : Wrote start at (line_in res stm text n) (set (set out'' d 46) (d + 1) 10) (d + 2)
          line-put = let q : d + 1 + 1 ≡ d + 2 = omega arith in rw q at (write-ends all-put refl)

-- ---- the lines of numbered statements

module _ (res stm text numbers : List ℕ) where
  abbrev page : ℕ → List ℕ
  page i = join_lines (lines_in res stm text (drop i numbers))

  -- the lines of the first i are written, and end at `to`
  abbrev pub Paging : List ℕ → List ℕ → ℕ → ℕ → Type 0
  Paging start out to i = Writing start 0 (page 0) out to (page i)

  page-more : (i : ℕ) → i < length numbers → page i ≡ line_in res stm text (get_or numbers i 0) ++ page (i + 1)
  unfolding join_lines
  page-more i h = rw (add-one i, drop-cons numbers i 0 h)

  module _ {start out : List ℕ} {to i : ℕ} (W : Paging start out to i) where
    pub page-room : length (page 0) ≤ length start → i < length numbers
        → to + length (line_in res stm text (get_or numbers i 0)) ≤ length out
    page-room r h =
        let line = line_in res stm text (get_or numbers i 0) in
        omega (arith, write-room W (omega arith), ap length (page-more i h), length-append line (page (i + 1)))

    pub page-turns : i < length numbers → (after : List ℕ) (r : ℕ)
        → Wrote out to (line_in res stm text (get_or numbers i 0)) after r → Paging start after r (i + 1)
    page-turns h after r w = write-on W _ _ after r (page-more i h) w

    pub page-ends : length numbers ≤ i → out ≡ sets start 0 (page 0)
    unfolding join_lines
    page-ends h = (write-ends W (rw (drop_of_length-le numbers h))).stored
