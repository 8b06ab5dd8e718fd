-- The laws of bodies, as they are stated.
use Rattle.std.proofs.Common.{◌∙◌, ◌⊎◌, length, get_or, ap, inl, inr}
use Rattle.rtl_bits.specs.declared.Bit.TheVariants.{X}
use Rattle.event_model.specs.Bodies.{after_made, body_made}
use Rattle.rtl_flat.specs.Flats.{Flat, widths}
use Rattle.event_model.specs.Traces.{Same}
use Rattle.event_laws.proofs.Made.{body_within}
use Rattle.event_laws.specs.Laws.{Depends, KeepsOthers, KeepsWidths, LeavesAlike, MakesNow, MakesOnPaths, MakesSure, MakesSureNow, MayLate, MayMake, MayNow, ReadsInside, TellsPaths, TellsTraces, TracesArePaths, ValuesAreWide, WritesInside, WritesVariables, WrittenIn, WrittenOut, after_body}
use Rattle.event_laws.proofs.Alike as alike
use Rattle.event_laws.proofs.Sizes as size
use Rattle.event_laws.proofs.Sure as sure
use Rattle.event_laws.proofs.Traced as traced
use Rattle.event_laws.proofs.Within as within
use Rattle.event_laws.proofs.Written as write

pub depends : (d : Flat) → Depends d
depends d v u body have have' lawful follows same =
    let both = alike.depends d v u have have' body lawful follows same in
    record { made = both.0; steps = both.1 }

pub body_sure_any : (d : Flat) → MakesSure d
body_sure_any d v body i k have lawful h = sure.body_sure_any d i k v have body lawful h

pub action_sure_now : (d : Flat) → MakesSureNow d
action_sure_now d v one i k have lawful h = sure.action_sure_now d i k v have one lawful h

pub sure_made : (d : Flat) → MakesOnPaths d
sure_made d v body i k have lawful follows h = sure.sure_made d i k v have body lawful follows h

pub may_now : (d : Flat) → MayNow d
may_now d v body i k lawful h = sure.may_now d.signals i k v body lawful h

pub may_late : (d : Flat) → MayLate d
may_late d v body i k lawful h = sure.may_late d.signals i k v body lawful h

pub may_make : (d : Flat) → MayMake d
may_make d v body i k lawful h = sure.may_make d.signals i k v body lawful h

pub actions_made : (d : Flat) → TellsTraces d
actions_made d test of_step tells v body lawful h = traced.actions_made of_step test d.signals tells v body lawful h

pub body_sets : (d : Flat) → TellsPaths d
body_sets d test of_step tells v body lawful h = traced.body_sets of_step test d.signals tells v body lawful h

pub body_traced : (d : Flat) → TracesArePaths d
body_traced d test v body h = traced.body_traced test (widths d) v body h

pub writes_variables : (d : Flat) → WritesVariables d
writes_variables d body i k lawful h = within.writes_variables d.signals body lawful i k h

pub writes_inside : (d : Flat) → WritesInside d
writes_inside d body i k lawful h = within.write_inside d.signals body lawful i k h

pub outside_inside : (d : Flat) → ReadsInside d
outside_inside d body i k lawful h = within.outside_inside d.signals body lawful i k h

pub value_size : (d : Flat) → ValuesAreWide d
value_size d v e have lawful =
    size.value_size (length d.signals) (widths d) v (λ i below. have i) e lawful.widths

pub written_in : (d : Flat) → WrittenIn d
written_in d v w i k have inside is = write.written_in d v w have inside i k is

pub written_out : (d : Flat) → WrittenOut d
written_out d v w i k have inside is = write.written_out d v w have inside i k is

pub have_made : (d : Flat) → KeepsWidths d
have_made d v body have lawful =
    write.have_after d v (body_made (widths d) v body) have (body_within d.signals v body lawful)

pub made_out : (d : Flat) → KeepsOthers d
made_out d v body i k have lawful none =
    write.kept_after d i k v (body_made (widths d) v body) have (body_within d.signals v body lawful) none

pub made_alike : (d : Flat) → LeavesAlike d
made_alike d v u body i k have have' lawful same either =
    by_way either ∙ ap (λ ms. get_or (after_made u ms i) k X) same
  where
    by_way : Same v u i k ⊎ MakesNow d v body i k → Same (after_body d v body) (after_made u (body_made (widths d) v body)) i k
    by_way (inl before) = write.same_after d i k v u (body_made (widths d) v body) have have' (body_within d.signals v body lawful) before
    by_way (inr made) = write.alike_after d i k v u (body_made (widths d) v body) have have' (body_within d.signals v body lawful) made
