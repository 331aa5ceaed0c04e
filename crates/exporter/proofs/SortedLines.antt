-- The lines sorted and written: sorted numbers give the sorted lines, what is written of them is the file, and the working
-- words are zeroed whatever they held meanwhile. Assumes nothing.
use mathlib.Core.Path.{◌≡◌, sym, ap, ◌∙◌}
use mathlib.Core.Logic.{◌≢◌, ⊎_elim}
use mathlib.Core.List.Memᴰ
use mathlib.Core.List.Permᴰ
use mathlib.Core.List.{List, ◌++◌, map, Memᴰ}
use Prim.Native.Nat.{ℕ, ◌+◌, ◌-◌, ◌≤◌, ◌<◌}
use native.Mathlib.Omega.{arith}
use lib.ListN.{length, take, drop, replicate, length-append, length-drop, length-replicate}
use lib.Seq.{sets, sets-eq, length-sets, take-append_seam, drop-append_seam, drop-append-add, drop-drop}
use borrow.Author.Tests.{le-leb, lt-leb}
use Rattle.store.specs.declared.Refusal.TheVariants.{ExportSpace}
use Rattle.store.specs.Shared.{below}
use Rattle.store.specs.Names.{more, compare_bytes}
use Rattle.store.specs.Soundness.{is_live}
use Rattle.store.proofs.Falling.{length-le}
use Rattle.std.specs.Prelude.{Ok, Err}
use Rattle.lines.specs.Export.{sort_lines, join_lines, over, written}
use Rattle.lines.specs.ExportClaims.{Rising}
use Rattle.lines.proofs.Sorting.{not_more_lem, sorted-is, join-length, sort-length}
use Rattle.line_order.specs.Rests.{line_in, Printable}
use Rattle.line_sort.specs.Sorted.{All, Sortable, Sorted, ByLine}
use Rattle.line_sort.specs.Sorted as sorted
use Rattle.line_sort.proofs.Lists.{all_map}
use Rattle.line_sort.proofs.Laws.{sorted_all}
use Rattle.exporter.specs.Legible.{live_bytes}
use Rattle.exporter.specs.Printed.{Wrote, lines_in, file_in, Ready, FileWritten, print_of}

-- ---- written from the first on

pub sets_over : (out l : List ℕ) → length l ≤ length out → sets out 0 l ≡ over l out
sets_over out l h =
    let q : 0 + length l ≡ length l = omega arith in rw q at (sets-eq l out 0 (omega arith))

-- ---- sorted numbers, sorted lines

module _ (res stm text : List ℕ) where
  abbrev line : ℕ → List ℕ
  line n = line_in res stm text n

  below_all : (x : ℕ) {l : List ℕ} → All (ByLine res stm text x) l → (y : List ℕ) → Memᴰ y (map line l)
      → compare_bytes (line x) y ≢ more
  below_all x All.none y k = absurd (Memᴰ.not-nil k)
  below_all x (All.more h a) y k = ⊎_elim (λ e. rw e ((not_more_lem _).0 h)) (λ m. below_all x a y m) (Memᴰ.cases_cons k)

  rising-lines : {l : List ℕ} → sorted.Rising (ByLine res stm text) l → Rising (map line l)
  rising-lines sorted.Rising.none = tt
  rising-lines (sorted.Rising.more a r) = (below_all _ a, rising-lines r)

  module _ {before after : List ℕ} (S : Sorted (ByLine res stm text) before after) where
    pub sorted-lines : sort_lines (lines_in res stm text before) ≡ lines_in res stm text after
    sorted-lines = sorted-is _ _ (Permᴰ.map line S.same) (rising-lines S.rising)

    pub sorted-printable : All (Sortable res stm text) before → All (Printable res stm text) after
    sorted-printable a = all_map (λ x s. s.printable) (sorted_all S a)

    abbrev bytes : List ℕ → ℕ
    bytes ns = length (join_lines (lines_in res stm text ns))

    same_bytes : bytes before ≡ bytes after
    same_bytes = join-length (Permᴰ.map line S.same)

    pub sorted-room : (k : ℕ) → bytes before ≤ k → bytes after ≤ k
    sorted-room k h = omega (arith, same_bytes)

    pub sorted-put : (out out' : List ℕ) → bytes before ≤ length out
        → out' ≡ sets out 0 (join_lines (lines_in res stm text after))
        → out' ≡ over (join_lines (sort_lines (lines_in res stm text before))) out
    sorted-put out out' h e =
        rw sorted-lines
        (e ∙ sets_over out (join_lines (lines_in res stm text after)) (sorted-room (length out) h))

-- ---- the working words: the live statements' numbers l are in the first `live` of them

module _ {work l held : List ℕ} {live : ℕ} (W : Wrote work 0 l held live) (h : length l ≤ length work) where
  count : live - 0 ≡ length l
  count = omega (arith, W.ends)

  over-them : held ≡ over l work
  over-them = W.stored ∙ sets_over work l h

  pub part-is : take (live - 0) held ≡ l
  part-is = rw (count, over-them) (take-append_seam l (drop (length l) work))

  rest-is : drop (live - 0) held ≡ drop (length l) work
  rest-is = rw (count, over-them) (drop-append_seam l (drop (length l) work))

  -- whatever the part then holds, t zeros over it leave the words after them
  pub zeros-over : (ys : List ℕ) (t : ℕ) → length l ≤ t → t ≤ length work → length ys ≡ length (take (live - 0) held)
      → sets (ys ++ drop (live - 0) held) 0 (replicate t 0) ≡ over (replicate t 0) work
  zeros-over ys t g k e =
      let e' : length ys ≡ length l = e ∙ ap length part-is in
      let rest = drop (length l) work in
      let size : length (replicate {A = ℕ} t 0) ≡ t = length-replicate {A = ℕ} t 0 in
      let long : length (replicate {A = ℕ} t 0) ≤ length (ys ++ rest) =
      simp (length-append, length-drop) (omega arith) in
      let q : t ≡ length ys + (t - length l) = omega arith in
      let p : length l + (t - length l) ≡ t = omega arith in
      let past : drop t (ys ++ rest) ≡ drop t work =
      ap (λ (i : ℕ). drop i (ys ++ rest)) q ∙ drop-append-add ys rest (t - length l)
      ∙ drop-drop (t - length l) (length l) work ∙ ap (λ (i : ℕ). drop i work) p in
      rw (rest-is, sets_over (ys ++ rest) (replicate t 0) long, size) (ap (λ (z : List ℕ). replicate t 0 ++ z) past)

-- ---- the live statements among the first t

module _ (stm : List ℕ) (t : ℕ) {work held : List ℕ} {live : ℕ} (W : Wrote work 0 (below (is_live stm) t) held live) where
  -- the working words stay as many, and no more than t are filled
  pub fill-size : length held ≡ length work
  fill-size = ap length W.stored ∙ length-sets work 0 (below (is_live stm) t)

  pub fill-few : live ≤ t
  fill-few = omega (arith, W.ends, length-le (is_live stm) t)

  module _ (g : t ≤ length work) where
    pub fill-room : live ≤ length held
    fill-room = omega (arith, fill-size, fill-few)

    few : length (below (is_live stm) t) ≤ length work
    few = omega (arith, length-le (is_live stm) t)

    module _ (res text : List ℕ) where
      pub part-ready : (k : ℕ) → Ready res stm text t → live_bytes res stm text t ≤ k
          → All (Sortable res stm text) (take (live - 0) held)
          × (length (join_lines (lines_in res stm text (take (live - 0) held))) ≤ k)
      unfolding live_bytes
      part-ready k R b = rw (part-is W few) (R.each, b)

      pub all-printed : (out out' work' ys : List ℕ)
          → out' ≡ over (join_lines (sort_lines (lines_in res stm text (take (live - 0) held)))) out
          → length ys ≡ length (take (live - 0) held) → work' ≡ sets (ys ++ drop (live - 0) held) 0 (replicate t 0)
          → FileWritten (file_in res stm text t) t out work out' work'
      all-printed out out' work' ys e k d = record {
        put = rw (part-is W few) at e;
        zeroed = d ∙ zeros-over W few ys t (length-le (is_live stm) t) g k;
      }

-- ---- refused, or written

module _ (res stm text : List ℕ) (t : ℕ) where
  pub file-bytes : length (file_in res stm text t) ≡ live_bytes res stm text t
  unfolding live_bytes
  file-bytes = sort-length (lines_in res stm text (below (is_live stm) t))

  module _ (bytes : ℕ) (is : bytes ≡ live_bytes res stm text t) (out work : List ℕ) where
    size : length (file_in res stm text t) ≡ bytes
    size = file-bytes ∙ sym is

    pub too_short : length out < bytes
        → written out work (Err ExportSpace) ≡ print_of (file_in res stm text t) t out work
    unfolding print_of
    too_short h = rw (lt-leb (length (file_in res stm text t)) (length out) (omega (arith, size)))

    pub file-put : (out' work' : List ℕ) → bytes ≤ length out → FileWritten (file_in res stm text t) t out work out' work'
        → written out' work' (Ok bytes) ≡ print_of (file_in res stm text t) t out work
    unfolding print_of
    file-put out' work' h P =
        rw (le-leb (length (file_in res stm text t)) (length out) (omega (arith, size)), P.put, P.zeroed, size)
