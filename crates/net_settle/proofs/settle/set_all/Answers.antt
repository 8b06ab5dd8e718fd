use Rattle.std.proofs.Common.{◌∙◌, ◌<◌, ◌∷◌, [], length, map, take, sym, ap, subst, arith}
use Rattle.std.proofs.lemmas.List.{get_or-map, length-map}
use Rattle.rtl_flat.specs.Value.{store}
use Rattle.rtl_flat.specs.Flats.{flat}
use Rattle.net_model.specs.Cycle.{given_after}
use Rattle.net_settle.specs.Settle.{SetsInput, setting_view}
use Rattle.net_settle.proofs.Given.{given_append, taken_next}
use Rattle.net_settle.proofs.settle.set_all.Goals as goal

pub set_one-requires-clause-sets : goal.set_one-requires-clause-sets
set_one-requires-clause-sets c =
    let settings = c.args.settings.now in
    let j = c.loop-setting.setting-index in
    let one = c.setting-item.result in
    let below : j < length settings = omega arith in
    let count = length-map settings setting_view in
    let sets = c.requires.sets j (setting_view one) (omega (arith, below, count)) in
    subst (λ r. SetsInput (flat r.now) (setting_view one)) (sym c.loop-setting.invariant.1)
    (subst (λ x. SetsInput (flat c.args.maps.now.design.now) x) (get_or-map setting_view settings j one (setting_view one) below ∙ ap setting_view (sym c.setting-item.is)) sets)

pub loop-setting-preserved : goal.loop-setting-preserved
loop-setting-preserved c =
    let settings = c.args.settings.now in
    let j = c.loop-setting.setting-index in
    let one = c.setting-item.result in
    let below : j < length settings = omega arith in
    let old = store c.args.maps.now.numbers.items in (
      c.set_one.ensures.able,
      c.set_one.ensures.design ∙ c.loop-setting.invariant.1,
      c.set_one.ensures.numbers
          ∙ (ap (λ n. given_after n (setting_view one ∷ [])) c.loop-setting.invariant.2
          ∙ (sym (given_append old (map setting_view (take j settings)) (setting_view one ∷ []))
          ∙ ap (given_after old) (sym (taken_next settings j one below c.setting-item.is)))),
    )
