-- A clock that goes through an input port: `module top (input clk, d, output q); part p (.c(clk), .d(d), .q(q));` over
-- `module part (input c, d, output reg q); always @(posedge c) q <= d;`.
use Rattle.std.proofs.Common.{◌≡◌, ◌≢◌, ◌==◌, ℕ, true, false, [], ◌∷◌, refl, ap, inl, arith}
use Rattle.std.proofs.lemmas.Bool.{and_parts, eqb-true}
use Rattle.rtl_bits.specs.declared.Edge.TheVariants as edge
use Rattle.text_ground.specs.declared.text.Spot.{Spot}
use Rattle.rtl_flat.specs.declared.signal.Signal.{Signal}
use Rattle.rtl_flat.specs.declared.signal.Kind.{Kind}
use Rattle.rtl_flat.specs.declared.signal.Kind.TheVariants.{Net, TopInput, Var}
use Rattle.rtl_flat.specs.Expression.{Tree, Sized}
use Rattle.rtl_flat.specs.Expression as tree
use Rattle.rtl_flat.specs.Process.{Whole, Watched, Set, Actions, Done, Then, Doing, Assign, Edge', Task}
use Rattle.rtl_flat.specs.Flats.{Flat}
use Rattle.net_model.specs.Control.{IsClockOrReset, IsInputConnection, IsLink, IsPassedOn, Itself, Through, whole_of}
use Rattle.net_model.specs.Gates.{InCone}

spot : Spot
spot = record { file = 0; at = 0 }

abbrev signal : Kind → ℕ → Signal
signal kind instance =
    record { path = []; width = 1; signed = false; low = 0; kind = kind; top_output = false; instance = instance; spot = spot }

abbrev bit_of : ℕ → Tree
bit_of i = Sized 1 false spot (tree.Whole i)

abbrev rise : Watched
rise = record { signal = 3; selection = Whole; edge = edge.Pos; spot = spot }

abbrev store : Actions
store = Then (Set (whole_of 5 spot) (bit_of 4) true spot) Done

abbrev task : Doing → ℕ → Task
task does instance = record { does = does; instance = instance; spot = spot }

-- clk, d and q of the top, then c, d and q of the part; the connections belong to the top
abbrev design : Flat
design =
    record {
      signals = signal TopInput 0 ∷ signal TopInput 0 ∷ signal Net 0 ∷ signal Net 1 ∷ signal Net 1 ∷ signal Var 1 ∷ [];
      tasks = task (Assign (whole_of 3 spot) (bit_of 0)) 0 ∷ task (Assign (whole_of 4 spot) (bit_of 1)) 0 ∷ task (Assign (whole_of 2 spot) (bit_of 5)) 0 ∷ task (Edge' (rise ∷ []) store) 1 ∷ [];
    }

inner : ◌≢◌ {A = ℕ} 1 0
inner h = omega (arith, h)

clock_passed : IsPassedOn design 0 3
clock_passed =
    record {
      process = 0;
      value = bit_of 0;
      connection = record { task = task (Assign (whole_of 3 spot) (bit_of 0)) 0; spot = spot; there = refl; does = refl; outside = inner };
      alone = record { bit = 0; read = refl; alone = λ j k h. eqb-true j 0 (and_parts (j == 0) _ h).0 };
      one_bit = refl;
      port_bit = refl;
    }

-- clk is a clock, and it and the port are the control cone
clock : IsClockOrReset design 0
clock =
    record {
      input = refl;
      signal = 3;
      reached = Through 0 3 Itself clock_passed;
      edges = record { process = 3; events = rise ∷ []; body = store; does = refl; waits = refl };
    }

port_in_cone : InCone design 3
port_in_cone = record { control = 0; is_control = inl clock; reached = Through 0 3 Itself clock_passed }

-- the output's connection is a link, and no connection of an input
output_link : IsLink design (whole_of 2 spot) (bit_of 5) 5 2
output_link =
    record { signed = false; spot = spot; target_spot = spot; whole = refl; copy = refl; one_bit = refl; target_bit = refl }

no_input : (e : Tree) → IsInputConnection design 2 2 e → ⊥
no_input e h =
    let there : task (Assign (whole_of 2 spot) (bit_of 5)) 0 ≡ h.task = cc (h.there) in
    h.outside (ap (λ (one : Task). one.instance) there)
