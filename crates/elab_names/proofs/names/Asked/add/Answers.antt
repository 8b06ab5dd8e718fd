use Rattle.std.specs.Option.{is_some}
use Rattle.std.proofs.Common.{◌≡◌, ◌∙◌, ℕ, List, [], ◌∷◌, ◌++◌, ap, sym}
use Rattle.name_map.specs.Values.{values_of, with_value}
use Rattle.rtl_elab.specs.elab_links.Modules.{lookups_of}
use Rattle.elab_lookups.specs.declared.look_up.LookUp.{LookUp}
use Rattle.elab_names.specs.declared.names.Asked.{Asked}
use Rattle.elab_names.proofs.Asking.{asks_new, asks_old}
use Rattle.elab_names.proofs.names.Asked.add.Goals as goal

pub returns-then-is_some : goal.returns-then-is_some
returns-then-is_some c =
    asks_old (lookups_of c.args.set.now) c.args.name.now c.args.self.now
    (ap is_some (sym c.find.ensures) ∙ sym c.is_some.ensures ∙ c.if-is_some.true)

pub returns : goal.returns
returns c =
    let name = c.args.name.now in
    let meant = c.find-meant.result in
    let old = c.args.self.now in
    let new : Asked = record { known = c.put.new.self; found = c.push.new.self } in
    let copied : c.in_ok-copy.copy ≡ name = c.in_ok-copy.ensures ∙ c.as_bytes.ensures in
    asks_new (lookups_of c.args.set.now) name meant old new (sym c.find-meant.ensures)
    (c.in_ok-put.ensures.ok ∙ ap (λ (n : List ℕ). with_value (values_of old.known) n meant) copied)
    (c.in_ok-push.ensures.items ∙ ap (λ (n : List ℕ). old.found.items ++ (let one : LookUp = record { name = n; meant = meant } in one) ∷ []) copied)
