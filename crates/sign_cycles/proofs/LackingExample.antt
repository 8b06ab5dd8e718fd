-- Two registers with one clock and one reset, which is active at 1 for the one and at 0 for the other:
-- `always @(posedge clk or posedge rst) if (rst) p <= 1'b0; else p <= a;` and
-- `always @(posedge clk or negedge rst) if (!rst) q <= 1'b0; else q <= a;`. No steps are a bring-up of it.
use Rattle.std.proofs.Common.{ℕ, zero, suc, true, false, List, [], ◌∷◌, refl}
use Rattle.rtl_bits.specs.declared.Bit.TheVariants.{Zero}
use Rattle.rtl_bits.specs.declared.Edge.TheVariants as edge
use Rattle.rtl_flat.specs.declared.expr.Fold.TheVariants as fold
use Rattle.rtl_flat.specs.declared.signal.Kind.TheVariants.{TopInput, Var}
use Rattle.rtl_flat.specs.Expression.{Tree, Sized, Literal, Folded}
use Rattle.rtl_flat.specs.Process.{Whole, Watched, Set, If, Actions, Done, Then, Edge', With}
use Rattle.rtl_flat.specs.Flats.{Flat}
use Rattle.net_model.specs.Control.{Itself, whole_of}
use Rattle.net_model.specs.Cycle.{Chain, Guard, Setting}
use Rattle.sign_cycles.specs.BringUp.{IsBringUp}
use Rattle.sign_cycles.specs.Lacking.{ResetsApart}
use Rattle.sign_cycles.proofs.Lacking.{not_both}
use Rattle.sign_cycles.proofs.Register.{bit_of, rise, signal, spot}

abbrev fall : ℕ → Watched
fall i = record { signal = i; selection = Whole; edge = edge.Neg; spot = spot }

abbrev store : ℕ → Tree → Actions
store target e = Then (Set (whole_of target spot) e true spot) Done

abbrev clear : ℕ → Actions
clear target = store target (Sized 1 false spot (Literal (Zero ∷ [])))

abbrev body : Tree → ℕ → Actions
body test target = Then (If test (clear target) (With (store target (bit_of 2))) spot) Done

abbrev negated : Tree
negated = Sized 1 false spot (Folded fold.Negation (bit_of 1))

-- clk, rst, a, p and q
abbrev design : Flat
design =
    record {
      signals = signal TopInput false ∷ signal TopInput false ∷ signal TopInput false ∷ signal Var true ∷ signal Var true ∷ [];
      tasks =
          record { does = Edge' (rise 0 ∷ rise 1 ∷ []) (body (bit_of 1) 3); instance = 0; spot = spot }
          ∷ record { does = Edge' (rise 0 ∷ fall 1 ∷ []) (body negated 4); instance = 0; spot = spot } ∷ [];
    }

abbrev high : Guard
high = record { item = rise 1; test = bit_of 1; branch = clear 3 }

abbrev low : Guard
low = record { item = fall 1; test = negated; branch = clear 4 }

abbrev chains : ℕ → Chain
chains zero = record { resets = high ∷ []; clock = rise 0; part = store 3 (bit_of 2) }
chains (suc p) = record { resets = low ∷ []; clock = rise 0; part = store 4 (bit_of 2) }

apart : ResetsApart design chains
apart =
    record {
      input = 1;
      is = refl;
      up = record {
        process = 0;
        events = rise 0 ∷ rise 1 ∷ [];
        body = body (bit_of 1) 3;
        does = refl;
        guard = high;
        only = refl;
        reached = Itself;
        at = refl;
      };
      down = record {
        process = 1;
        events = rise 0 ∷ fall 1 ∷ [];
        body = body negated 4;
        does = refl;
        guard = low;
        only = refl;
        reached = Itself;
        at = refl;
      };
    }

none : (steps : List (List Setting)) → IsBringUp design chains steps → ⊥
none = not_both design chains apart
