use Rattle.std.proofs.Common.{◌≡◌, ◌∙◌, ◌∷◌, [], List, ap, map, subst}
use Rattle.std.specs.List.{All}
use Rattle.std.proofs.lemmas.List.Elements.{All-head}
use Rattle.event_model.specs.declared.setting.Setting.{Setting}
use Rattle.net_model.specs.Cycle.{Turn}
use Rattle.net_model.specs.Lawful.{TurnsControl}
use Rattle.netlist_eval.specs.Sims.{flat_of, shown}
use Rattle.netlist_eval.specs.net_settle.Settle.{setting_view}
use Rattle.vcd_check.specs.Checks.{data_steps}
use Rattle.vcd_check.specs.Departure.{read_as}
use Rattle.vcd_check.proofs.Lists.{read_turn, single}
use Rattle.vcd_check.proofs.follow.take_steps.Goals as goal

pub turn-requires-clause-control : goal.turn-requires-clause-control
turn-requires-clause-control c =
    let net = c.args.net.now in
    let one = single c.args.controls.now c.control-item.result c.in-len1.len_at_least c.in-len1.len_below c.control-item.is in
    All-head (TurnsControl (flat_of net) (shown net)) (setting_view c.control-item.result) []
    (subst (λ (l : List Setting). All (TurnsControl (flat_of net) (shown net)) (map setting_view l)) one c.requires.controls)

pub returns-in-len1-clause-taken : goal.returns-in-len1-clause-taken
returns-in-len1-clause-taken c =
    let one = single c.args.controls.now c.control-item.result c.in-len1.len_at_least c.in-len1.len_below c.control-item.is in
    let others = map setting_view c.args.settings.now in (
      Turn (setting_view c.control-item.result) ∷ data_steps others,
      ap (λ (l : List Setting). read_as (map setting_view l) others) one ∙ read_turn (setting_view c.control-item.result) others,
      c.turn.ensures.cycles,
    )
