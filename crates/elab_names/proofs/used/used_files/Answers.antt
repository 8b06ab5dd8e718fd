use Rattle.std.proofs.Common.{◌≡◌, ◌∙◌, ℕ, ◌+◌, List, ◌++◌, ◌∷◌, [], take, ap, sym, subst}
use Rattle.std.proofs.lemmas.List.{take_more}
use Rattle.std.specs.Prelude.{Vec}
use Rattle.std.specs.declared.alloc.Global.{Global}
use Rattle.elab_lookups.specs.declared.look_up.LookUp.{LookUp}
use Rattle.elab_names.specs.Moves.{AreFilesOf}
use Rattle.elab_names.proofs.Ascending.{files_more, files_same}
use Rattle.elab_names.proofs.used.used_files.Goals as goal
use Rattle.elab_names.proofs.used.used_files.Goals.{in-Found+in_ok-insert, in_default}

pub loop-look_up-preserved : goal.loop-look_up-preserved
loop-look_up-preserved c =
    let all = c.args.look_ups.now in
    let i = c.loop-look_up.look_up-index in
    let one = c.look_up-item.result in
    let before = c.loop-look_up.numbers.items in
    let numbers = c.match-look_up.numbers.items in
    let more : take i all ++ one ∷ [] ≡ take (i + 1) all
    = ap (λ (l : LookUp). take i all ++ l ∷ []) c.look_up-item.is ∙ sym (take_more all i one c.loop-look_up-test.true) in
    subst (λ (found : List LookUp). AreFilesOf found numbers) more
    (elim c.match-look_up.branch as (λ _. AreFilesOf (take i all ++ one ∷ []) numbers) [
      | in-Found+in_ok-insert w ↦
          let made = files_more (take i all) one w.in-Found.place before w.insert.new.numbers.items w.in-Found.is w.in_ok-insert.ensures.ascending w.in_ok-insert.ensures.each c.loop-look_up.invariant in
          subst (λ (all_numbers : Vec ℕ Global). AreFilesOf (take i all ++ one ∷ []) all_numbers.items) (sym w.numbers-is) made
      | in_default w ↦
          let made = files_same (take i all) one before w.in_default.not-Found c.loop-look_up.invariant in
          subst (λ (all_numbers : Vec ℕ Global). AreFilesOf (take i all ++ one ∷ []) all_numbers.items) (sym w.numbers-is) made
    ])
