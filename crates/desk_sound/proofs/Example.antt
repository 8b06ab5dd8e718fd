-- Well formed requests, and an accepted one, on small cases.
use Rattle.std.proofs.Common.{◌≡◌, ◌<◌, true, arith, [], ◌∷◌, Some, refl, codes}
use Rattle.std.specs.Prelude.{ℤ}
use Rattle.std.specs.Str.{is_utf8}
use Rattle.std.proofs.lemmas.Bool.{leb-true}
use Rattle.std.proofs.lemmas.List.Elements.{All-cons, All-nil}
use Rattle.std.proofs.lemmas.Str.{IsUtf8-from_ascii, is_utf8-from_IsUtf8}
use Rattle.std.proofs.lemmas.Str.Ascii.{IsAscii-from_all}
use Rattle.desk_tables.specs.Tables.{Kept, new_tables}
use Rattle.desk_tables.specs.declared.change.Change.TheVariants as change
use Rattle.desk_requests.specs.declared.ask.Ask.{Ask}
use Rattle.desk_requests.specs.declared.ask.Ask.TheVariants as ask
use Rattle.desk_requests.specs.declared.ask.Request.{Request}
use Rattle.desk_bodies.specs.Bodies.{name_text}
use Rattle.desk_records.specs.Machine.{kept_row}
use Rattle.desk_sound.specs.Lawful.{ByTables, IsAccepted, IsLawful}

abbrev asked : Ask → Request
asked its_ask = record { user = codes "ann"; id = Some (codes "1"); digest = []; ask = its_ask }

one_is_utf8 : is_utf8 (codes "1") ≡ true
one_is_utf8 =
    is_utf8-from_IsUtf8 (codes "1")
    (IsUtf8-from_ascii (codes "1") (IsAscii-from_all (codes "1") (All-cons (λ b. b < 128) 49 [] (omega arith) (All-nil (λ b. b < 128)))))

a_file_is_put_under_a_plain_name : IsLawful (asked (ask.PutFile (codes "a.v") (codes "x")))
a_file_is_put_under_a_plain_name = record {
  asks = record { named = refl; short = leb-true _ _ refl };
  label = one_is_utf8;
}

no_name_has_a_slash : IsLawful (asked (ask.PutFile (codes "a/b") (codes "x"))) → ⊥
no_name_has_a_slash lawful = let named = lawful.asks.named in cc

abbrev one_file : Kept
one_file = record new_tables {
  files = record { name = codes "a.v"; text = []; digest = []; editor = codes "bob" } ∷ [];
}

a_file_is_dropped : (today : ℤ) → IsAccepted (asked (ask.DropFile (codes "a.v"))) today one_file (change.DropFile (codes "a.v") (kept_row (asked (ask.DropFile (codes "a.v"))) 200 (name_text (codes "a.v"))))
a_file_is_dropped today = ByTables refl
