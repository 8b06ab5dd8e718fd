-- Ports that are signed in one of their two declarations: that of the direction says `signed`, and that of `wire` or `reg`
-- doesn't. A port is signed where one of them says so (IEEE 1364-2001 section 12.3.3), but some tools go by the second.
-- Worked examples: proofs/Examples.antt.
use Rattle.std.specs.Prelude.{ℕ, ◌+◌, Bool, true, false, if◌then◌else◌, List, [], ◌∷◌, ◌++◌, Option, None, Some}
use Rattle.std.specs.List.{flat_map, slice_get}
use Rattle.rtl_tree.specs.TreeExpr.{Identifier}
use Rattle.rtl_flat.specs.declared.note.Note.{Note}
use Rattle.rtl_flat.specs.declared.note.Reading.TheVariants.{PortSign}
use Rattle.elab_uses.specs.elab_items.declared.entries.Form.{Form}
use Rattle.elab_uses.specs.elab_items.Claims.{is_directed}
use Rattle.elab_uses.specs.elab_items.Declarations.{Declaration, ParameterRange, Parameter, SignalRange, Listed, Signal, Integer, Instance}
use Rattle.elab_uses.specs.elab_items.Rosters.{Listing}
use Rattle.elab_uses.specs.elab_links.Marks.{Marks, no_marks, with_marks}
use Rattle.elab_uses.specs.elab_scope.declared.known.Known.{Known}
use Rattle.elab_uses.specs.elab_scope.declared.known.Known.TheVariants as known
use Rattle.elab_uses.specs.elab_scope.Names.{Meanings}
use Rattle.elab_uses.specs.elab_standard.declared.uses.Home.{Home}
use Rattle.elab_readings.specs.Notes.{note_at}

-- the name of a port whose direction is declared `signed`
abbrev pub signed_here : Declaration → List Identifier
signed_here (Signal form true name) = if is_directed form then name ∷ [] else []
signed_here (Signal form false name) = []
signed_here (ParameterRange bounds) = []
signed_here (Parameter kind name value) = []
signed_here (SignalRange bounds) = []
signed_here (Listed name) = []
signed_here (Integer name) = []
signed_here (Instance name) = []

-- all of them, as a set
abbrev pub signed_ports : List Declaration → Marks
signed_ports ds = with_marks no_marks (flat_map signed_here ds)

-- a name that `wire` or `reg` declares without `signed`, where it is in the set
abbrev pub unsigned_here : Marks → Declaration → List Identifier
unsigned_here ports (Signal form false name) =
    if is_directed form then [] else if ports name.text then name ∷ [] else []
unsigned_here ports (Signal form true name) = []
unsigned_here ports (ParameterRange bounds) = []
unsigned_here ports (Parameter kind name value) = []
unsigned_here ports (SignalRange bounds) = []
unsigned_here ports (Listed name) = []
unsigned_here ports (Integer name) = []
unsigned_here ports (Instance name) = []

-- it is told at the place of the signal: of the first of its declarations
abbrev pub listed_note : Home → ℕ → Option Listing → List Note
listed_note home signal None = []
listed_note home signal (Some listing) =
    note_at PortSign (Some (record { 0 = signal })) home listing.line.at ∷ []

-- of what a name stands for, among signals of which the first has this number in the design
abbrev pub sign_note : Home → ℕ → List Listing → Option Known → List Note
sign_note home base listings (Some (known.Signal number role shape)) =
    listed_note home (base + number) (slice_get listings number)
sign_note home base listings (Some (known.Parameter number width signed)) = []
sign_note home base listings (Some (known.Integer number)) = []
sign_note home base listings None = []

abbrev pub name_note : Home → ℕ → Meanings → List Listing → Identifier → List Note
name_note home base scope listings name = sign_note home base listings (scope name.text)

-- those of a module with these declarations
abbrev pub sign_notes : Home → ℕ → Meanings → List Listing → List Declaration → List Note
sign_notes home base scope listings ds =
    flat_map (name_note home base scope listings) (flat_map (unsigned_here (signed_ports ds)) ds)
