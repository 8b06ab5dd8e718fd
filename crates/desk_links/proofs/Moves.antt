-- What is read of an input, and what is left of it.
use Rattle.std.proofs.Common.{◌≡◌, ◌∙◌, ℕ, List, [], ◌+◌, ◌++◌, drop, take, ap, sym}
use Rattle.std.proofs.Math.Seq.{take-add}
use Rattle.std.proofs.lemmas.List.{append-nil, drop-drop, take-append-drop}
use Rattle.desk_links.specs.Links.{Moves}
use Rattle.desk_links.specs.declared.link.memory.Past.{Past}
use Rattle.desk_links.specs.Held.{talk_of}

left_more : (input : List ℕ) (at count : ℕ) → drop at input ≡ take count (drop at input) ++ drop (at + count) input
left_more input at count =
    sym (take-append-drop count (drop at input)) ∙ ap (λ rest. take count (drop at input) ++ rest) (drop-drop count at input)

-- some bytes more are read
pub reads_more : (past : Past) (count : ℕ) (heard : List ℕ) → heard ≡ take count (drop past.at past.input.items) → Moves (talk_of past) (talk_of (record past { at = past.at + count })) heard []
reads_more past count heard is =
    record {
      left = left_more past.input.items past.at count ∙ ap (λ bytes. bytes ++ drop (past.at + count) past.input.items) (sym is);
      read = take-add past.at count past.input.items ∙ ap (λ bytes. take past.at past.input.items ++ bytes) (sym is);
      written = sym (append-nil past.written.items);
    }
