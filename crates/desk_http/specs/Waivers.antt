-- The waiver that a body asks for: a JSON object (RFC 8259) of seven members, all texts.
-- Worked examples: crates/desk_http/proofs/Example.antt.
use Rattle.std.specs.Prelude.{ℕ, Bool, ◌&&◌, ◌==◌, codes, List, Option, Some, None, option_map, option_and_then, unwrap_or, if◌then◌else◌}
use Rattle.std.specs.Str.{is_utf8}
use Rattle.serde_json.specs.Data.{Data}
use Rattle.serde_json.specs.Events.{members_len}
use Rattle.serde_json.specs.Find.{as_object, as_str, get}
use Rattle.serde_json.specs.Read.{read}
use Rattle.rtl_rule.specs.Rows.{rule_with}
use Rattle.desk_tables.specs.Names.{name_of}
use Rattle.desk_dates.specs.Reading.{day_of_text}
use Rattle.desk_http.specs.Labels.{is_label, is_word}
use Rattle.desk_http.specs.Places.{is_place}
use Rattle.desk_requests.specs.declared.ask.WaiverAsk.{WaiverAsk}
use Rattle.desk_http.specs.declared.waiver.Members.{Members}

infixl 10 ◌>>=◌
abbrev ◌>>=◌ : {A B : Type 0} → Option A → (A → Option B) → Option B
it >>= f = option_and_then f it

-- what the members say, as it is written
pub record Texts : Type 0 where
  pub last_day : List ℕ
  pub owner : List ℕ
  pub place : List ℕ
  pub reason : List ℕ
  pub rule : List ℕ
  pub target : List ℕ
  pub top : List ℕ

-- the members that were read, as texts
abbrev pub texts : Members → Texts
texts members = record {
  last_day = members.last_day.now;
  owner = members.owner.now;
  place = members.place.now;
  reason = members.reason.now;
  rule = members.rule.now;
  target = members.target.now;
  top = members.top.now;
}

-- the text under a key
abbrev pub text_at : List ℕ → Data → Option (List ℕ)
text_at key body = option_and_then as_str (get key body)

-- how many members an object has
abbrev pub member_count : Data → ℕ
member_count body = unwrap_or (option_map members_len (as_object body)) 0

-- the texts under the seven keys
unfoldable pub texts_under : Data → Option Texts
texts_under body = do
  last_day ← text_at (codes "last_day") body
  owner ← text_at (codes "owner") body
  place ← text_at (codes "place") body
  reason ← text_at (codes "reason") body
  rule ← text_at (codes "rule") body
  target ← text_at (codes "target") body
  top ← text_at (codes "top") body
  Some (record {
    last_day = last_day;
    owner = owner;
    place = place;
    reason = reason;
    rule = rule;
    target = target;
    top = top;
  })

-- these texts, where the object has no other member
abbrev pub texts_of : Data → Option Texts
texts_of body = if member_count body == 7 then texts_under body else None

-- the module is a word, the place has its form, and the reason is 1 to 200 printable characters
abbrev pub is_fit : Texts → Bool
is_fit texts = is_word texts.top && is_place texts.place && is_label 200 texts.reason

-- the waiver of these texts, where day, rule and owner are as they have to be
unfoldable pub waiver_by : Texts → Option WaiverAsk
waiver_by texts = do
  last_day ← day_of_text texts.last_day
  rule ← rule_with texts.rule
  owner ← name_of texts.owner
  Some (record {
    last_day = last_day;
    owner = owner;
    place = texts.place;
    reason = texts.reason;
    rule = rule;
    target = texts.target;
    top = texts.top;
  })

-- the waiver of these texts
unfoldable pub waiver_with : Texts → Option WaiverAsk
waiver_with texts = if is_fit texts then waiver_by texts else None

abbrev pub waiver_in : Data → Option WaiverAsk
waiver_in body = option_and_then waiver_with (texts_of body)

-- the waiver that a body asks for, whose last member under a key is the one that counts
abbrev pub waiver_of : List ℕ → Option WaiverAsk
waiver_of body = if is_utf8 body then option_and_then waiver_in (read body) else None
