-- Modules without a port whose direction is declared `signed`.
use Rattle.std.specs.Prelude.{ℕ, true, false, List, [], ◌∷◌, ◌++◌}
use Rattle.std.specs.List.{flat_map}
use Rattle.std.proofs.Common.{◌≡◌, ◌∙◌, ap, refl, sym}
use Rattle.rtl_tree.specs.TreeExpr.{Identifier}
use Rattle.rtl_flat.specs.declared.note.Note.{Note}
use Rattle.elab_uses.specs.elab_items.declared.entries.Form.{Form}
use Rattle.elab_uses.specs.elab_items.declared.entries.Form.TheVariants as form
use Rattle.elab_uses.specs.elab_items.Declarations.{Declaration, ParameterRange, Parameter, SignalRange, Listed, Signal, Integer, Instance}
use Rattle.elab_uses.specs.elab_items.Rosters.{Listing}
use Rattle.elab_uses.specs.elab_links.Marks.{no_marks, with_marks}
use Rattle.elab_uses.specs.elab_scope.Names.{Meanings}
use Rattle.elab_uses.specs.elab_standard.declared.uses.Home.{Home}
use Rattle.elab_readings.specs.Signs.{name_note, sign_notes, signed_here, unsigned_here}

none_here : (d : Declaration) → unsigned_here no_marks d ≡ []
none_here (Signal (form.Header direction kind) false name) = refl
none_here (Signal (form.Item direction kind) false name) = refl
none_here (Signal form.Wire false name) = refl
none_here (Signal form.Reg false name) = refl
none_here (Signal form true name) = refl
none_here (ParameterRange bounds) = refl
none_here (Parameter kind name value) = refl
none_here (SignalRange bounds) = refl
none_here (Listed name) = refl
none_here (Integer name) = refl
none_here (Instance name) = refl

none_in : (ds : List Declaration) → flat_map (unsigned_here no_marks) ds ≡ []
none_in [] = refl
none_in (d ∷ ds) = ap (λ names. names ++ flat_map (unsigned_here no_marks) ds) (none_here d) ∙ none_in ds

pub no_signs : (home : Home) (base : ℕ) (scope : Meanings) (listings : List Listing) (ds : List Declaration) → flat_map signed_here ds ≡ [] → sign_notes home base scope listings ds ≡ []
no_signs home base scope listings ds none =
    ap (λ names. flat_map (name_note home base scope listings) (flat_map (unsigned_here (with_marks no_marks names)) ds)) none
    ∙ ap (flat_map (name_note home base scope listings)) (none_in ds)
