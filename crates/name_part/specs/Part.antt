-- A name's reply: the refusal, or the part of the text that the span tells. Assumes nothing.
use Rattle.std.specs.Prelude.{◌≡◌, List, ℕ, take, drop, Result, Ok, Err}
use denote.Ref.{Bor}
use Rattle.store.specs.declared.NameSpan.{NameSpan}
use Rattle.store.specs.declared.Refusal.{Refusal}

-- the bytes of the span
abbrev pub part_of : List ℕ → NameSpan → List ℕ
part_of text s = take s.size (drop s.start text)

-- what a reply says of an answer: its refusal, or its bytes
abbrev pub NameReply : List ℕ → Result NameSpan Refusal → Result (Bor (List ℕ)) Refusal → Type 0
NameReply text (Ok s) (Ok part) = part.now ≡ part_of text s
NameReply text (Err e) (Err d) = d ≡ e
NameReply text (Ok s) (Err d) = ⊥
NameReply text (Err e) (Ok part) = ⊥
