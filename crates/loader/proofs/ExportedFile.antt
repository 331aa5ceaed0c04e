-- The file of a sound store, loaded by the loading program's definition: a line of it has at most 255 bytes for each of
-- its three names and four more, so that none is over the limit, and each leaves the store that `load_text` of crate
-- `lines` leaves. Assumes nothing.
use Prim.Native.Nat.{ℕ, zero, suc, ◌≤◌}
use mathlib.Core.Path.{◌≡◌, refl, ap, ◌∙◌}
use mathlib.Core.List.{List, [], ◌∷◌, ◌++◌, map, Memᴰ}
use native.Mathlib.Omega.{arith}
use lib.ListN.{length, drop, length-append, length-drop}
use borrow.Author.Tests.{lt-ltb, le-ltb, le-leb}
use Rattle.store.specs.declared.Position.TheVariants.{Subject, Predicate, Object}
use Rattle.store.specs.declared.Counters.{Counters}
use Rattle.store.specs.Tables.{Tables}
use Rattle.store.specs.Values.{Values}
use Rattle.store.specs.Soundness.{Sound}
use Rattle.store.specs.History.{Store, store, fresh_store}
use Rattle.store.proofs.Form.{form-short}
use Rattle.store.proofs.Theorems.{fresh-is-sound}
use Rattle.ntriples.specs.declared.Line.{Line}
use Rattle.ntriples.specs.declared.Line.TheVariants as answer
use Rattle.ntriples.proofs.Lines.{line-found}
use Rattle.graph.specs.Meaning.{Term, RdfTriple}
use Rattle.lines.specs.Export.{line_of, join_lines, file_of}
use Rattle.lines.specs.ExportClaims.{load_line, load_from, load_text, LoadsBack}
use Rattle.lines.proofs.LineTriple.{bare_line}
use Rattle.lines.proofs.LoadStep.{Fit}
use Rattle.lines.proofs.LoadLines.{first-line, reads}
use Rattle.lines.proofs.LoadText.{past}
use Rattle.lines.proofs.FileLoads.{file_triples, file-is, file-fits, file-loads}
use Rattle.loader.specs.Lines.{line_limit, content_of, line_at, load_line_of, lines_from, load_lines_of, Reloaded, CodeLoadsFile}

-- a line leaves the same store, however it is reported
same_store : (s : Store) (text : List ℕ) (l : Line) → (load_line_of s text l).0 ≡ (load_line s text l).0
unfolding load_line_of
same_store s text answer.End = refl
same_store s text answer.Nothing = refl
same_store s text (answer.Refused k) = refl
same_store s text (answer.Triple x y z) = refl

module _ (ns : List Term) (text : List ℕ) where
  -- three names, three blanks, the dot
  within-limit : (y : RdfTriple) → Fit ns y → (i : ℕ) (r : List ℕ) → drop i text ≡ line_of y ++ r
      → content_of text i ≤ line_limit
  unfolding content_of bare_line
  within-limit y F i r e =
      let s = form-short y.subject (F.each Subject).formed in
      let p = form-short y.predicate (F.each Predicate).formed in
      let o = form-short y.object (F.each Object).formed in
      rw (line-found _ _ _ (first-line ns y F text i r e)).0 (simp length-append (omega arith))

  -- both go in step from line to line
  in_step : (n : ℕ) (ys : List RdfTriple) (s : Store) (i : ℕ) → drop i text ≡ join_lines (map line_of ys)
      → ((y : RdfTriple) → Memᴰ y ys → Fit ns y) → lines_from n s text i ≡ (load_from n s text i).0
  unfolding lines_from load_from line_at join_lines
  in_step zero ys s i e f = refl
  in_step (suc n) [] s i e f = rw (le-ltb i (length text) (omega (arith, length-drop i text, ap length e)))
  in_step (suc n) (y ∷ ys) s i e f =
      let F = f y (Memᴰ.head refl) in
      let r = join_lines (map line_of ys) in
      let R = reads ns y F text i r e in
      rw (
        lt-ltb i (length text) R.0,
        le-leb (content_of text i) line_limit (within-limit y F i r e),
        R.1.next,
        same_store,
      )
      (in_step n ys _ _ (past text y i r e) (λ z d. f z (Memᴰ.tail d)))

-- so both leave the same store
same-file : (c : Counters) (m : Tables) → Sound c m → (s : Store) → load_lines_of s (file_of c m) ≡ (load_text s (file_of c m)).0
same-file c m S s =
    in_step S.names (file_of c m) (length (file_of c m)) (file_triples c m) s 0 (file-is c m) (file-fits c m S)

reloaded : (c d : Counters) (m m'' : Tables) (z : Store × List Values) → LoadsBack c m z → store d m'' [] ≡ z.0
    → Reloaded c d m m''
reloaded c d m m'' z b e =
    let w : LoadsBack c m (store d m'' [], z.1) = rw e b in
    record { sound = w.sound; statements = w.statements; graph = w.graph }

pub code-loads-file : CodeLoadsFile
code-loads-file c m S m' m'' d k L =
    reloaded c d m m'' (load_text (fresh_store m') (file_of c m)) (file-loads c m S m' k)
    (L.sound (fresh-is-sound m') [] ∙ same-file c m S (fresh_store m'))
