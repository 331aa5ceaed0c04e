-- What was read of the first line of a text: its parts lie in the text, and are names as a store holds them. Laws for the code that asks
-- for room by what was read. Assumes nothing.
use mathlib.Core.Path.{◌≡◌, refl, sym, ap, ◌∙◌}
use mathlib.Core.Logic.{◌⊎◌, inl, inr}
use mathlib.Core.Bool.{Bool, true}
use mathlib.Core.List.{List, []}
use Prim.Native.Nat.{ℕ, suc, ◌≤◌, ◌<◌}
use native.Mathlib.Omega.{arith}
use lib.ListN.{length, drop}
use borrow.Author.Tests.{lt-ltb}
use Rattle.term.specs.Grammar.{name_limit}
use Rattle.term.specs.Scanner.{kind_of}
use Rattle.term.specs.Canonical.{canonical}
use Rattle.term.proofs.Turn.{below_or}
use Rattle.store.specs.declared.Counters.{Counters}
use Rattle.store.specs.Shared.{well_formed}
use Rattle.store.specs.Tables.{Tables, tables}
use Rattle.store.specs.Names.{storable}
use Rattle.store.specs.History.{Store, fresh_store}
use Rattle.store.proofs.Form.{canonical-storable}
use Rattle.store.proofs.Theorems.{fresh-is-sound}
use Rattle.ntriples.specs.declared.Span.{Span}
use Rattle.ntriples.specs.declared.Line.{Line}
use Rattle.ntriples.specs.declared.Line.TheVariants as answer
use Rattle.ntriples.specs.Grammar.{bytes_of, Values, values_of}
use Rattle.ntriples.specs.Reader.{read_of}
use Rattle.ntriples.specs.Claims.{Enterable}
use Rattle.ntriples.proofs.Lines.{line-exists}
use Rattle.ntriples.proofs.Claims.{reads-a-line}
use Rattle.graph.specs.Meaning.{RdfTriple}
use Rattle.graph.specs.Claims.{SoundStore, canonical_triple}
use Rattle.lines.specs.Claims.{names_in, LineLoads}
use Rattle.lines.proofs.Theorems.{lines-load}
use Rattle.loader.specs.Steps.{LineInside}
use Rattle.loader.proofs.Inside.{line-inside}
use Rattle.whole_line.specs.Room.{three_names, Storable, RoomAnswer, LineAnswer}

-- ---- the line, by the theorem of crate `lines`

abbrev Loading : List ℕ → Span → Span → Span → Store → Type 0
Loading text x y z s = (l : List ℕ) × LineLoads text l x y z s

pub first-loads : (text : List ℕ) (x y z : Span) → (read_of name_limit text 0).line ≡ answer.Triple x y z → (s : Store) → SoundStore s
    → Loading text x y z s
unfolding values_of
first-loads text x y z e s S = by_length (below_or 0 (length text))
  where
    by_length : (0 < length text) ⊎ (length text ≤ 0) → Loading text x y z s
    by_length (inl h) =
        let w = line-exists (drop 0 text) in (w.0, lines-load text 0 w.0 w.1 h w.2 x y z (ap values_of e) s S)
    by_length (inr h) =
        let k : ◌≡◌ {A = ℕ} 0 2 =
        ap (λ (v : Values). v.status) (sym ((reads-a-line 255 text 0 (omega arith)).ended h).0 ∙ ap values_of e) in
        absurd (omega arith)

-- ---- its names

formed : (w : List ℕ) (k : ℕ) → kind_of name_limit w ≡ suc k → well_formed w ≡ true
unfolding well_formed
formed w k e = lt-ltb 0 (kind_of name_limit w) (omega arith)

as-held : (w : List ℕ) → well_formed w ≡ true → canonical w ≡ w → storable w ≡ true
as-held w f e = rw e at (canonical-storable w f)

subject-formed : (w : List ℕ) → (kind_of name_limit w ≡ 1) ⊎ (kind_of name_limit w ≡ 2) → well_formed w ≡ true
subject-formed w (inl e) = formed w 0 e
subject-formed w (inr e) = formed w 1 e

object-formed : (w : List ℕ) → (kind_of name_limit w ≡ 1) ⊎ ((kind_of name_limit w ≡ 2) ⊎ (kind_of name_limit w ≡ 3))
    → well_formed w ≡ true
object-formed w (inl e) = formed w 0 e
object-formed w (inr (inl e)) = formed w 1 e
object-formed w (inr (inr e)) = formed w 2 e

names-held : (text : List ℕ) (x y z : Span) → Enterable name_limit text x y z
    → canonical_triple (names_in text x y z) ≡ names_in text x y z → Storable (bytes_of text x) (bytes_of text y) (bytes_of text z)
names-held text x y z E e = record {
  subject = as-held _ (subject-formed _ E.subject_kind) (ap (λ (t : RdfTriple). t.subject) e);
  predicate = as-held _ (formed _ 0 E.predicate_kind) (ap (λ (t : RdfTriple). t.predicate) e);
  object = as-held _ (object-formed _ E.object_kind) (ap (λ (t : RdfTriple). t.object) e);
}

pub parts_held : (text : List ℕ) (x y z : Span) → (read_of name_limit text 0).line ≡ answer.Triple x y z
    → Storable (bytes_of text x) (bytes_of text y) (bytes_of text z)
parts_held text x y z e =
    let m = tables [] [] [] [] in
    let L = (first-loads text x y z e (fresh_store m) (fresh-is-sound m)).1 in
    names-held text x y z L.enterable L.short

-- ---- for the code

module _ (text : List ℕ) {line : Line} {x y z : Span} (r : line ≡ (read_of name_limit text 0).line) (e : line ≡ answer.Triple x y z) where
  pub parts-inside : LineInside text (answer.Triple x y z)
  parts-inside = line-inside text 0 (answer.Triple x y z) (sym r ∙ e)

  pub parts-storable : Storable (bytes_of text x) (bytes_of text y) (bytes_of text z)
  parts-storable = parts_held text x y z (sym r ∙ e)

module _ {c : Counters} {m : Tables} {text : List ℕ} {line : Line} where
  pub room-triple : {x y z : Span} {r : Bool} → line ≡ answer.Triple x y z
      → RoomAnswer c m (three_names (bytes_of text x) (bytes_of text y) (bytes_of text z)) r → LineAnswer c m text line r
  room-triple {x} {y} {z} e A =
      rw e (record { exact = A.exact; capacity = A.capacity; unread = λ h. absurd (h x y z refl) })

  pub room-refused : {k : ℕ} → line ≡ answer.Refused k → LineAnswer c m text line true
  room-refused e = rw e (record { exact = λ ns N f. refl; capacity = λ f. refl; unread = λ h. refl })

  pub room-end : line ≡ answer.End → LineAnswer c m text line true
  room-end e = rw e (record { exact = λ ns N f. refl; capacity = λ f. refl; unread = λ h. refl })

  pub room-nothing : line ≡ answer.Nothing → LineAnswer c m text line true
  room-nothing e = rw e (record { exact = λ ns N f. refl; capacity = λ f. refl; unread = λ h. refl })
