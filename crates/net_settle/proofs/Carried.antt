-- What plain connections carry.
use Rattle.std.proofs.Common.{◌≡◌, ◌∙◌, ℕ, List, Some, length, refl, ap}
use Rattle.rtl_flat.specs.Expression.{Tree, Sized}
use Rattle.rtl_flat.specs.Expression as tree
use Rattle.rtl_flat.specs.Process.{Assign, Piece}
use Rattle.event_model.specs.Queue.{doing_at}
use Rattle.rtl_flat.specs.Flats.{Flat, widths}
use Rattle.event_model.specs.Writes.{Values, driven}
use Rattle.net_model.specs.declared.fill.Fill.{Fill}
use Rattle.net_model.specs.Control.{Here, IsBehind, IsLink, Next, whole_of}
use Rattle.net_model.specs.Numbers.{bit, digits}
use Rattle.net_model.specs.Solution.{IsSolution}
use Rattle.net_body.proofs.net_laws_proofs.Literals.{extended_whole}
use Rattle.net_solve.proofs.net_rest_proofs.Latches.{whole_driven, whole_may}
use Rattle.net_settle.specs.Laws.{AreCarried}

module _ (d : Flat) where
  module _ (f : Fill) (held given n : Values) (solution : IsSolution d f held given n) where
    link_carries : (p : ℕ) (target : List Piece) (value : Tree) (i j : ℕ) → doing_at d p ≡ Some (Assign target value) → IsLink d target value i j → bit n j 0 ≡ bit n i 0
    link_carries p target value i j here link =
        let here' : doing_at d p ≡ Some (Assign (whole_of j link.target_spot) (Sized 1 link.signed link.spot (tree.Whole i)))
        = here ∙ (ap (λ t. Some (Assign t value)) link.whole ∙ ap (λ e. Some (Assign (whole_of j link.target_spot) e)) link.copy) in
        let size : length (n i) ≡ 1 = solution.numbers.wide i ∙ link.one_bit in
        let number : digits f n (Sized 1 link.signed link.spot (tree.Whole i)) ≡ n i = extended_whole 1 link.signed (n i) size in
        solution.assigns p (whole_of j link.target_spot) (Sized 1 link.signed link.spot (tree.Whole i)) here' j 0 (whole_may d j link.target_spot link.target_bit)
        ∙ (ap (λ bits. bit (driven (widths d) (whole_of j link.target_spot) bits) j 0) number
        ∙ whole_driven d j link.target_spot (n i) size link.target_bit)

    carried_all : (start j : ℕ) → IsBehind d start j → bit n j 0 ≡ bit n start 0
    carried_all start j (Here) = refl
    carried_all start j (Next i j' p target value behind here link) =
        link_carries p target value i j here link ∙ carried_all start i behind

pub carried : (d : Flat) → AreCarried d
carried d f held given n solution start j behind = carried_all d f held given n solution start j behind
