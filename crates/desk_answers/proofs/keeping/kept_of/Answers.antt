use Rattle.std.proofs.Common.{◌∙◌, List, ℕ, ap, map, subst, sym}
use Rattle.desk_memo.specs.check_conditions.Foreign.{elsewhere_in}
use Rattle.desk_memo.specs.rtl_prep.Conditions.{FileConditions}
use Rattle.elab_lookups.specs.declared.look_up.LookUp.{LookUp}
use Rattle.elab_names.specs.elab_links.Modules.{circuits_of}
use Rattle.elab_names.specs.Extracts.{extract}
use Rattle.elab_names.specs.LookUps.{AreLookUps}
use Rattle.elab_names.specs.rtl_elab.Designs.{library_of}
use Rattle.elab_names.specs.rtl_elab.Elaborated.{elaborated}
use Rattle.desk_memo.specs.Readings.{file_at}
use Rattle.desk_memo.specs.ShownReadings.{conditions_of, modules_of, readings_of}
use Rattle.desk_memo.specs.Shown.{ruling_of, used_among}
use Rattle.desk_answers.proofs.Made.{made_current, made_ruling, said_of}
use Rattle.desk_answers.proofs.keeping.kept_of.Goals as goal

pub returns-clause-ruling : goal.returns-clause-ruling
returns-clause-ruling g c =
    let numbers : List ℕ = c.in_ok-made.made.files.items in
    let circuits = circuits_of c.modules.result.now in
    let conditions = conditions_of c.args.readings.now in
    let first = extract numbers (library_of circuits) in
    let ruling = ruling_of c.in_ok-kept.kept in
    made_ruling c.args.files.now (readings_of c.args.readings.now) (modules_of c.args.readings.now) circuits conditions c.args.top.now numbers ruling c.modules.ensures
    c.in_ok-kept.ensures.top
    (record {
      names = c.same_names.ensures;
      in_order = c.requires.in_order;
      right = c.requires.right;
      unchanged = c.requires.unchanged;
      spelled = c.all_spelled.ensures c.args.files.now (readings_of c.args.readings.now) (modules_of c.args.readings.now) c.requires.right c.requires.unchanged c.requires.spelled;
      asked = c.all_asked.ensures c.args.files.now (readings_of c.args.readings.now) (modules_of c.args.readings.now) conditions c.requires.right c.requires.known c.requires.unchanged c.requires.spelled;
      are_used = c.in_ok-made.ensures.used;
      looked = subst (λ (it : List LookUp). AreLookUps first c.args.top.now it) (sym c.in_ok-kept.ensures.look_ups) c.in_ok-made.ensures.look_ups;
      used = c.in_ok-kept.ensures.used ∙ ap (used_among (file_at (readings_of c.args.readings.now))) c.deref-4.ensures.value;
      elsewhere =
          c.in_ok-kept.ensures.elsewhere ∙ c.in_ok-elsewhere.ensures
          ∙ ap (λ (it : List FileConditions). map (elsewhere_in it) c.deref-3.result.now) c.conditions-2.ensures
          ∙ ap (map (elsewhere_in conditions)) c.deref-3.ensures.value;
      said =
          said_of g.J.Judge.says c.args.files.now circuits conditions c.conditions.result.now c.args.top.now numbers c.deref.result.now c.deref-2.result.now c.note_tools.new.design c.in_ok-answer.answer.value ruling.answer
          c.conditions.ensures c.deref.ensures.value c.deref-2.ensures.value c.in_ok-kept.ensures.answer
          (c.in_ok-note_tools.ensures (elaborated first c.args.top.now) c.in_ok-made.ensures.design) c.in_ok-answer.ensures;
    })

pub returns-clause-current : goal.returns-clause-current
returns-clause-current g c =
    let numbers : List ℕ = c.in_ok-made.made.files.items in
    let circuits = circuits_of c.modules.result.now in
    let conditions = conditions_of c.args.readings.now in
    let first = extract numbers (library_of circuits) in
    let ruling = ruling_of c.in_ok-kept.kept in
    made_current {says = g.J.Judge.says} c.args.files.now (readings_of c.args.readings.now) (modules_of c.args.readings.now) circuits conditions c.args.top.now numbers ruling c.modules.ensures
    c.in_ok-kept.ensures.top
    (record {
      names = c.same_names.ensures;
      in_order = c.requires.in_order;
      right = c.requires.right;
      unchanged = c.requires.unchanged;
      spelled = c.all_spelled.ensures c.args.files.now (readings_of c.args.readings.now) (modules_of c.args.readings.now) c.requires.right c.requires.unchanged c.requires.spelled;
      asked = c.all_asked.ensures c.args.files.now (readings_of c.args.readings.now) (modules_of c.args.readings.now) conditions c.requires.right c.requires.known c.requires.unchanged c.requires.spelled;
      are_used = c.in_ok-made.ensures.used;
      looked = subst (λ (it : List LookUp). AreLookUps first c.args.top.now it) (sym c.in_ok-kept.ensures.look_ups) c.in_ok-made.ensures.look_ups;
      used = c.in_ok-kept.ensures.used ∙ ap (used_among (file_at (readings_of c.args.readings.now))) c.deref-4.ensures.value;
      elsewhere =
          c.in_ok-kept.ensures.elsewhere ∙ c.in_ok-elsewhere.ensures
          ∙ ap (λ (it : List FileConditions). map (elsewhere_in it) c.deref-3.result.now) c.conditions-2.ensures
          ∙ ap (map (elsewhere_in conditions)) c.deref-3.ensures.value;
      said =
          said_of g.J.Judge.says c.args.files.now circuits conditions c.conditions.result.now c.args.top.now numbers c.deref.result.now c.deref-2.result.now c.note_tools.new.design c.in_ok-answer.answer.value ruling.answer
          c.conditions.ensures c.deref.ensures.value c.deref-2.ensures.value c.in_ok-kept.ensures.answer
          (c.in_ok-note_tools.ensures (elaborated first c.args.top.now) c.in_ok-made.ensures.design) c.in_ok-answer.ensures;
    })
