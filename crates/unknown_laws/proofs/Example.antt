-- A register without a reset, `always @(posedge clk) q <= d;`: it may be x after power-up, and so may be what reads it.
-- `assign y = q ? 1'b1 : 1'b0;` doesn't tell that, and `always @* if (q) y = 1'b1; else y = 1'b0;` does.
use Rattle.std.proofs.Common.{ℕ, true, false, [], ◌∷◌, None, refl, inr, arith}
use Rattle.std.specs.List.{flat_map}
use Rattle.std.proofs.lemmas.Bool.{false≢true, true≢false}
use Rattle.rtl_bits.specs.declared.Bit.{Bit}
use Rattle.rtl_bits.specs.declared.Bit.TheVariants.{Zero, One}
use Rattle.rtl_bits.specs.declared.Edge.TheVariants as edge
use Rattle.text_ground.specs.declared.text.Spot.{Spot}
use Rattle.rtl_flat.specs.declared.signal.Signal.{Signal}
use Rattle.rtl_flat.specs.declared.signal.Kind.{Kind}
use Rattle.rtl_flat.specs.declared.signal.Kind.TheVariants.{Net, TopInput, Var}
use Rattle.rtl_flat.specs.Expression.{Tree, Sized, Chosen, Literal}
use Rattle.rtl_flat.specs.Expression as tree
use Rattle.rtl_flat.specs.Flats.{Flat}
use Rattle.rtl_flat.specs.Process.{Whole, Watched, Set, If, Actions, Assign, Comb, Done, Then, With, Doing, Edge', Task}
use Rattle.net_model.specs.Control.{whole_of}
use Rattle.rtl_rule.specs.declared.rule.Rule.TheVariants as rule
use Rattle.rtl_rule.specs.Parts.{statements}
use Rattle.check_unknown.specs.Unknowns.{Behind, IsDoubtful, IsDoubtfulChoice, Unreset, at_choice, choices_in}
use Rattle.check_laws.proofs.Sites.{refuted_in}
use Rattle.unknown_laws.specs.Doubt.{TellsNoUnknown}

spot : Spot
spot = record { file = 0; at = 0 }

abbrev signal : Kind → Signal
signal kind =
    record { path = []; width = 1; signed = false; low = 0; kind = kind; top_output = true; instance = 0; spot = spot }

abbrev bit_of : ℕ → Tree
bit_of i = Sized 1 false spot (tree.Whole i)

abbrev constant : Bit → Tree
constant b = Sized 1 false spot (Literal (b ∷ []))

abbrev rise : Watched
rise = record { signal = 0; selection = Whole; edge = edge.Pos; spot = spot }

abbrev give : ℕ → Tree → Actions
give i e = Then (Set (whole_of i spot) e false spot) Done

abbrev store : Doing
store = Edge' (rise ∷ []) (Then (Set (whole_of 2 spot) (bit_of 1) true spot) Done)

abbrev task_of : Doing → Task
task_of does = record { does = does; instance = 0; spot = spot }

-- clk, d, q and y, which is a net or a variable
abbrev parts : Kind → Doing → Flat
parts kind last =
    record {
      signals = signal TopInput ∷ signal TopInput ∷ signal Var ∷ signal kind ∷ [];
      tasks = task_of store ∷ task_of last ∷ [];
    }

abbrev picks : Doing
picks = Assign (whole_of 3 spot) (Sized 1 false spot (Chosen (bit_of 2) (constant One) (constant Zero)))

abbrev decides : Doing
decides = Comb None (Then (If (bit_of 2) (give 3 (constant One)) (With (give 3 (constant Zero))) spot) Done)

-- q has no reset
stored : (kind : Kind) (last : Doing) → IsDoubtful (parts kind last) 2
stored kind last =
    Unreset 2 (record {
      process = 0;
      task = task_of store;
      there = refl;
      clocked = refl;
      register = record { inside = omega arith; writes = refl; kept = λ temporary. true≢false temporary.of_process.inner };
      no_reset = refl;
    })

-- and y reads it
picked : IsDoubtful (parts Net picks) 3
picked = Behind 1 3 2 (task_of picks) refl (stored Net picks) refl refl

none_told : TellsNoUnknown (parts Net picks)
none_told =
    record {
      x4 = record {
        broken = [];
        those = inr (false≢true, inr (false≢true, inr (false≢true, inr (false≢true, inr (false≢true, refl)))));
        shown = refl;
      };
      u1 = record { broken = []; those = refl; shown = refl };
      u2 = record { broken = []; those = refl; shown = refl };
    }

told : TellsNoUnknown (parts Var decides) → ⊥
told none =
    let d = parts Var decides in
    let each = refuted_in (IsDoubtfulChoice d) (at_choice rule.XOptimism d) (λ does. flat_map choices_in (statements does)) d none.u1 1 (task_of decides) refl in
    each.0 (record { signal = 2; doubtful = stored Var decides; reads = refl })
