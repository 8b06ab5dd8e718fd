-- What a name means, from the last module to the first.
use Rattle.std.specs.Prelude.{if◌then◌else◌, Vec}
use Rattle.std.specs.Str.{bytes_eq}
use Rattle.std.specs.declared.alloc.Global.{Global}
use Rattle.std.proofs.Common.{◌≡◌, ◌∙◌, ℕ, ◌+◌, ◌<◌, List, ◌++◌, length, get_or, map, drop, sym, ap}
use Rattle.std.proofs.lemmas.List.{drop_more}
use Rattle.rtl_tree.specs.TreeModule.{circuit}
use Rattle.rtl_tree.specs.declared.tree.modules.Module.{Module}
use Rattle.elab_links.specs.declared.module_set.Lookup.{Lookup}
use Rattle.elab_links.specs.declared.module_set.Place.{Place}
use Rattle.elab_links.specs.Modules.{Placed, circuits_of, found, placed_from, placed_in, with_another}
use Rattle.elab_links.proofs.Steps.{left_at}

pub one_earlier : (modules : List Module) (file index : ℕ) (written : Module) (name : List ℕ) (later result : Lookup) (others : List Placed) → index < length modules → later ≡ found (placed_in file (index + 1) (map circuit (drop (index + 1) modules)) ++ others) name → result ≡ (if bytes_eq (get_or modules index written).name.text name then with_another (let place : Place = record { file = file; index = index } in place) later else later) → result ≡ found (placed_in file index (map circuit (drop index modules)) ++ others) name
one_earlier modules file index written name later result others inside before made =
    made
    ∙ ap (λ (lookup : Lookup). if bytes_eq (get_or modules index written).name.text name then with_another (let place : Place = record { file = file; index = index } in place) lookup else lookup) before
    ∙ ap (λ (all : List Module). found (placed_in file index (map circuit all) ++ others) name) (sym (drop_more modules index written inside))

pub file_earlier : (files : List (Vec Module Global)) (file : ℕ) (modules : Vec Module Global) (name : List ℕ) (result : Lookup) → file < length files → modules ≡ get_or files file modules → result ≡ found (placed_in file 0 (map circuit modules.items) ++ placed_from (file + 1) (circuits_of (drop (file + 1) files))) name → result ≡ found (placed_from file (circuits_of (drop file files))) name
file_earlier files file modules name result inside is made =
    made ∙ ap (λ (all : List (Vec Module Global)). found (placed_from file (circuits_of all)) name) (sym (left_at files file modules inside is))
