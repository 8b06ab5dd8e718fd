-- What the loops over events and modules begin with and do in a turn.
use Rattle.std.proofs.Common.{◌≡◌, ℕ, suc, ◌<◌, true, List, [], ◌∷◌, ◌++◌, length, Some, None, refl, sym, ap, ◌∙◌}
use Rattle.text_ground.specs.declared.dropped.Dropped.{Dropped}
use Rattle.rtl_tree.specs.Symbols.{Terminal}
use Rattle.rtl_tree.specs.TreeItem.{Happening}
use Rattle.rtl_tree.specs.TreeModule.{WrittenCircuit}
use Rattle.text_build.specs.Reading.{add, links, turns}
use Rattle.text_build.specs.ReadingItem.{joins_events, after_joint, event, events}
use Rattle.text_build.specs.ReadingModule.{is_more, circuit, circuits}
use Rattle.text_build.proofs.Steps.{add_some, add_none, turns_go, turns_fail, turns_start}

pub events_start : (n d : ℕ) (found : List Happening) (ts : List Terminal) → n ≡ length ts → found ≡ [] → links n joins_events after_joint (add (event d)) found ts ≡ events d ts
unfolding events
events_start n d found ts e f = rw (e, f) refl

pub circuits_start : (n d : ℕ) (regions : List Dropped) (found : List WrittenCircuit) (ts : List Terminal) → n ≡ length ts → found ≡ [] → turns n is_more (add (circuit d regions)) found ts ≡ circuits d regions ts
unfolding circuits
circuits_start n d regions found ts e f = turns_start n is_more (add (circuit d regions)) found [] ts e f

pub circuits_turn : (n m d : ℕ) (regions : List Dropped) (found found' : List WrittenCircuit) (ts rest : List Terminal) (c : WrittenCircuit) → n ≡ suc m → is_more ts ≡ true
    → circuit d regions ts ≡ Some (c, rest) → found' ≡ found ++ c ∷ [] → turns n is_more (add (circuit d regions)) found ts ≡ turns m is_more (add (circuit d regions)) found' rest
circuits_turn n m d regions found found' ts rest c e s l f =
    turns_go n m is_more (add (circuit d regions)) found ts (Some (found ++ c ∷ [], rest)) e s (add_some (circuit d regions) found ts rest c l)
    ∙ ap (λ a. turns m is_more (add (circuit d regions)) a rest) (sym f)

pub circuits_fail : (n d : ℕ) (regions : List Dropped) (found : List WrittenCircuit) (ts : List Terminal) → 0 < n → is_more ts ≡ true → circuit d regions ts ≡ None → turns n is_more (add (circuit d regions)) found ts ≡ None
circuits_fail n d regions found ts m s l = turns_fail n is_more (add (circuit d regions)) found ts m s (add_none (circuit d regions) found ts l)
