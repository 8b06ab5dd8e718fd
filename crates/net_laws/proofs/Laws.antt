-- The laws of numbers, as they are stated.
use Rattle.std.proofs.Common.{◌≡◌, ◌∙◌, ℕ, false, None, refl, sym, ap, inl, inr}
use Rattle.std.specs.Prelude.{unwrap_or}
use Rattle.std.specs.List.{list_any}
use Rattle.std.proofs.lemmas.Bool.{false_from_ne_true}
use Rattle.rtl_flat.specs.Flows.{body_flow}
use Rattle.rtl_flat.specs.Paths.{may_write_delayed, reads_bit}
use Rattle.rtl_flat.specs.Process.{Actions}
use Rattle.rtl_flat.specs.WellFormed.{IsBody}
use Rattle.rtl_flat.proofs.Outside.{read_or_written}
use Rattle.rtl_flat.proofs.Paths.{decided}
use Rattle.event_model.specs.Bodies.{after_made, body_made}
use Rattle.rtl_flat.specs.Flats.{Flat, widths}
use Rattle.event_model.specs.Traces.{Same, makes_late}
use Rattle.event_model.specs.Writes.{Values}
use Rattle.event_laws.proofs.Made.{body_within}
use Rattle.event_laws.proofs.Sure.{may_late}
use Rattle.net_model.specs.declared.fill.Fill.{Fill}
use Rattle.net_model.specs.declared.fill.Fill.TheVariants as fill
use Rattle.net_model.specs.Block.{acts, first_maps}
use Rattle.net_model.specs.Numbers.{AreNumbers, bit}
use Rattle.net_model.specs.Solution.{start}
use Rattle.net_laws.specs.Laws.{AreCovered, AreExact, BlockDepends, BlockIs, BlocksAreKnown, ClockedIs, DigitsAreKnown, FillsAgree, LateIs, LeaveNumbers, StartDepends, TakePaths, TameDepends, at_last, last_late, late_writes}
use Rattle.net_laws.specs.Rules.{ExclusiveByRules, FirmByRules, TameByRules}
use Rattle.net_laws.specs.Tame.{AreSplit, AreTame}
use Rattle.net_laws.proofs.After.{IsAfter}
use Rattle.net_laws.proofs.Apart as apart_items
use Rattle.net_laws.proofs.Blocks.{ByWay, body_is}
use Rattle.net_laws.proofs.Covered as cover
use Rattle.net_laws.proofs.Depends.{AreAlike, body_alike, same_after}
use Rattle.net_laws.proofs.Digits as digit
use Rattle.net_laws.proofs.Exact as exactly
use Rattle.net_laws.proofs.Firm as by_rules
use Rattle.net_laws.proofs.Follows as follow
use Rattle.net_laws.proofs.Late.{after_writes, any_late, late_within, none_last}
use Rattle.net_laws.proofs.Numbers.{numbers_body}
use Rattle.net_laws.proofs.Numeric.{body_numeric, numeric_bit}
use Rattle.net_laws.proofs.Parts.{Gives}
use Rattle.net_laws.proofs.Alike.{last_alike}
use Rattle.net_laws.proofs.Starts.{same_outside, same_own, start_wide}

pub exact : (d : Flat) → AreExact d
exact d f v e are lawful firm = exactly.exact d f v are e lawful.widths firm

pub covered : (d : Flat) → AreCovered d
covered d v kind selector branches are sized lawful firm whole =
    cover.covered d v are kind selector branches sized lawful firm whole

pub whole_path : (d : Flat) → TakePaths d
whole_path d v body are lawful tame = follow.body_path d v are body lawful tame

pub numbers_after : (d : Flat) → LeaveNumbers d
numbers_after d v body are lawful tame = numbers_body d v are body lawful tame

-- each bit is written in its way
by_way : (d : Flat) (body : Actions) → AreSplit d body → ByWay (may_write_delayed (body_flow (widths d) body)) (body_flow (widths d) body)
by_way d body split =
    record {
      now = λ i k h. false_from_ne_true (may_write_delayed (body_flow (widths d) body) i k)
          (λ late. split.one_way i k ((decided (body_flow (widths d) body) i k).now.0 h) ((decided (body_flow (widths d) body) i k).late.0 late));
      later = λ i k h. h;
    }

all_is :
    (d : Flat) (f : Fill) (v : Values) (body : Actions) → AreNumbers d v → IsBody d.signals body → AreTame d body → AreSplit d body →
    IsAfter (first_maps v) (body_made (widths d) v body) (acts (widths d) f (first_maps v) body)
all_is d f v body are lawful tame split =
    body_is d f (may_write_delayed (body_flow (widths d) body)) (first_maps v) are (λ i k not_late. refl) body lawful tame split.exclusive (by_way d body split)

pub late_is : (d : Flat) → LateIs d
late_is d f v body i k are lawful tame split =
    let is = all_is d f v body are lawful tame split in
    ap (λ o. unwrap_or o (bit (acts (widths d) f (first_maps v) body).now i k)) (is.next i k)
    ∙ ap (λ (u : Values). unwrap_or (last_late d v body i k) (bit u i k)) is.now

-- the values after late writes
at_last_is : (d : Flat) (v : Values) (body : Actions) (i k : ℕ) → AreNumbers d v → IsBody d.signals body → AreTame d body → bit (at_last d v body) i k ≡ unwrap_or (last_late d v body i k) (bit (after_made v (body_made (widths d) v body)) i k)
at_last_is d v body i k are lawful tame =
    let ms = body_made (widths d) v body in
    after_writes d i k (after_made v ms) (late_writes ms) (numbers_body d v are body lawful tame).wide (late_within d ms (body_within d.signals v body lawful)) None (bit (after_made v ms) i k) refl

pub clocked_is : (d : Flat) → ClockedIs d
clocked_is d f v body i k are lawful tame split =
    late_is d f v body i k are lawful tame split ∙ sym (at_last_is d v body i k are lawful tame)

pub block_is : (d : Flat) → BlockIs d
block_is d f v body i k are lawful tame plainly =
    let ms = body_made (widths d) v body in
    let split : AreSplit d body = record { one_way = λ j l now late. plainly.at_once j l late; exclusive = plainly.exclusive } in
    let none : list_any (makes_late i k) ms ≡ false = false_from_ne_true (list_any (makes_late i k) ms) (λ h. plainly.at_once i k (may_late d.signals i k v body lawful h)) in
    late_is d f v body i k are lawful tame split
    ∙ ap (λ o. unwrap_or o (bit (after_made v ms) i k)) (none_last i k None (late_writes ms) (any_late i k ms ∙ none))

pub tame_depends : (d : Flat) → TameDepends d
tame_depends d f n m body i k are are' lawful tame split same either =
    late_is d f n body i k are lawful tame split ∙ last_alike d n m body are are' lawful tame same i k either
    ∙ sym (late_is d f m body i k are' lawful tame split)

pub digits_known : (d : Flat) → DigitsAreKnown d
digits_known d f n e are lawful =
    record { wide = digit.digits_size d f n are e lawful.widths; known = digit.digits_known d f n are e lawful.widths }

pub block_known : (d : Flat) → BlocksAreKnown d
block_known d f n body i k are lawful below =
    numeric_bit d (acts (widths d) f (first_maps n) body)
    (body_numeric d f (first_maps n) (record { now = are; next = λ j l b inside e. absurd (cc) }) body lawful) i k below

pub fills_agree : (d : Flat) → FillsAgree d
fills_agree d v body i k are lawful tame split =
    clocked_is d fill.Zero v body i k are lawful tame split ∙ sym (clocked_is d fill.One v body i k are lawful tame split)

pub block_depends : (d : Flat) → BlockDepends d
block_depends d f n m body wide wide' lawful outside inside i k here =
    let read : Gives reads_bit (Same n m) (body_flow (widths d) body)
    = λ j l h. elim (read_or_written (widths d) j l body h) [ inl reads ↦ outside j l reads | inr writes ↦ inside j l writes ] in
    let start : AreAlike d (Same n m) (first_maps n) (first_maps m)
    = record { wide = wide; wide' = wide'; now = λ j l same. same; next = λ j l same. refl; wrote = λ j l same. refl; late = λ j l same. refl } in
    same_after d (Same n m) (acts (widths d) f (first_maps n) body) (acts (widths d) f (first_maps m) body) i k here (body_alike d f (Same n m) (first_maps n) (first_maps m) start body lawful read)

pub start_depends : (d : Flat) → StartDepends d
start_depends d f held held' n n' body lawful own others i k written =
    block_depends d f (start d body held n) (start d body held' n') body (start_wide d body held n) (start_wide d body held' n') lawful
    (same_outside d body lawful held held' n n' own others) (same_own d body lawful held held' n n' own) i k (same_own d body lawful held held' n n' own i k written)

pub firm : (d : Flat) → FirmByRules d
firm d e lawful clear = by_rules.firm d e lawful clear

pub tame : (d : Flat) → TameByRules d
tame d body lawful clear full = by_rules.tame d body lawful clear full

pub exclusive : (d : Flat) → ExclusiveByRules d
exclusive d body lawful tame apart = apart_items.exclusive d body lawful tame apart
