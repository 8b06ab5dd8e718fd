use Rattle.std.proofs.Common.{◌≡◌, ◌∙◌, refl, ap, subst, sym}
use Rattle.desk_requests.specs.Replies.{said}
use Rattle.design_db.specs.Stores.{Store}
use Rattle.desk_core.specs.Machine.{Machine}
use Rattle.desk_core.specs.Steps.{IsSameStore}
use Rattle.desk_core.proofs.Made.{is_unmade}
use Rattle.desk_core.proofs.Same.{same_then}
use Rattle.desk_core.proofs.desk.Desk.make.Goals as goal
use Rattle.desk_core.proofs.desk.Desk.make.Goals.{in-PutFile-1, in-DropFile-1, in-Grant-1, in-Revoke-1, in-SignOff-1}

pub returns-in-Err-clause-made : goal.returns-in-Err-clause-made
returns-in-Err-clause-made g c =
    let kept = λ (machine : Machine). machine.kept in
    let count = g.K.Keeper.count c.args.keeper.now in
    let stays : c.match-change.self.kept ≡ c.args.self.now.kept =
    elim c.match-change.branch [
      | in-PutFile-1 w ↦ ap kept w.self-is ∙ ap kept c.self.view_is
      | in-DropFile-1 w ↦ ap kept w.self-is ∙ ap kept c.self.view_is
      | in-Grant-1 w ↦ ap kept w.self-is ∙ ap kept c.self.view_is
      | in-Revoke-1 w ↦ ap kept w.self-is ∙ ap kept c.self.view_is
      | in-SignOff-1 w ↦ ap kept w.self-is ∙ ap kept c.self.view_is
    ] in
    is_unmade c.args.change count count c.args.self.now.kept c.match-change.self.kept (said c.no_memory.result) stays c.no_memory.ensures refl

pub returns-in-Ok-clause-left : goal.returns-in-Ok-clause-left
returns-in-Ok-clause-left g c =
    let first = subst (λ (machine : Machine). IsSameStore machine.store c.plan_of.new.db) c.self.view_is c.plan_of.ensures.same in
    λ leaves. same_then c.args.self.now.store c.plan_of.new.db c.commit.new.db first (c.commit.ensures.left leaves)

pub returns-in-Err-clause-left : goal.returns-in-Err-clause-left
returns-in-Err-clause-left g c =
    let first = subst (λ (machine : Machine). IsSameStore machine.store c.plan_of.new.db) c.self.view_is c.plan_of.ensures.same in
    let store = λ (machine : Machine). machine.store in
    let stays : c.match-change.self.store ≡ c.plan_of.new.db =
    elim c.match-change.branch [
      | in-PutFile-1 w ↦ ap store w.self-is
      | in-DropFile-1 w ↦ ap store w.self-is
      | in-Grant-1 w ↦ ap store w.self-is
      | in-Revoke-1 w ↦ ap store w.self-is
      | in-SignOff-1 w ↦ ap store w.self-is
    ] in
    λ leaves. subst (λ (it : Store). IsSameStore c.args.self.now.store it) (sym stays) first

pub returns-in-Ok-clause-rulings : goal.returns-in-Ok-clause-rulings
returns-in-Ok-clause-rulings g c =
    c.commit.ensures.rulings ∙ c.plan_of.ensures.same.rulings
    ∙ ap (λ (machine : Machine). machine.store.rulings) c.self.view_is

pub returns-in-Ok-clause-absent : goal.returns-in-Ok-clause-absent
returns-in-Ok-clause-absent g c =
    c.commit.ensures.absent ∙ c.plan_of.ensures.same.absent
    ∙ ap (λ (machine : Machine). machine.store.absent) c.self.view_is

pub returns-in-Err-clause-rulings : goal.returns-in-Err-clause-rulings
returns-in-Err-clause-rulings g c =
    let rulings = λ (machine : Machine). machine.store.rulings in
    let stays : c.match-change.self.store.rulings ≡ c.plan_of.new.db.rulings =
    elim c.match-change.branch [
      | in-PutFile-1 w ↦ ap rulings w.self-is
      | in-DropFile-1 w ↦ ap rulings w.self-is
      | in-Grant-1 w ↦ ap rulings w.self-is
      | in-Revoke-1 w ↦ ap rulings w.self-is
      | in-SignOff-1 w ↦ ap rulings w.self-is
    ] in
    stays ∙ c.plan_of.ensures.same.rulings ∙ ap rulings c.self.view_is

pub returns-in-Err-clause-absent : goal.returns-in-Err-clause-absent
returns-in-Err-clause-absent g c =
    let absent = λ (machine : Machine). machine.store.absent in
    let stays : c.match-change.self.store.absent ≡ c.plan_of.new.db.absent =
    elim c.match-change.branch [
      | in-PutFile-1 w ↦ ap absent w.self-is
      | in-DropFile-1 w ↦ ap absent w.self-is
      | in-Grant-1 w ↦ ap absent w.self-is
      | in-Revoke-1 w ↦ ap absent w.self-is
      | in-SignOff-1 w ↦ ap absent w.self-is
    ] in
    stays ∙ c.plan_of.ensures.same.absent ∙ ap absent c.self.view_is
