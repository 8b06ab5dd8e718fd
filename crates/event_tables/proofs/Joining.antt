-- Processes that join the listeners of a signal.
use Rattle.std.proofs.Common.{ℕ, zero, suc, ◌≡◌, ◌∙◌, ◌<◌, arith, Bool, true, false, ◌&&◌, ◌||◌, List, [], ◌∷◌, ◌++◌, length, set, get_or, Option, Some, Vec, refl, sym, ap, subst}
use Rattle.std.specs.Prelude.{◌==◌}
use Rattle.std.specs.List.{All, slice_get}
use Rattle.std.specs.Option.{unwrap_or}
use Rattle.std.specs.declared.alloc.Global.{Global}
use Rattle.std.proofs.lemmas.List.Elements.{All-nil, All-head, All-tail, All-push, All-cons}
use Rattle.std.proofs.lemmas.Option.{none-some}
use Rattle.rtl_bits.specs.declared.Bit.{Bit}
use Rattle.rtl_bits.specs.declared.Edge.{Edge}
use Rattle.rtl_flat.specs.declared.act.ProcId.{ProcId}
use Rattle.event_write.specs.declared.listener.Listener.{Listener}
use Rattle.event_write.specs.Listeners.{AreBelow, is_among, hears_from, heard_by}
use Rattle.event_tables.specs.Hearing.{IsLike, Joins}
use Rattle.event_tables.proofs.Ears.{or_assoc, or_none}

among_push : (qs : List ProcId) (q : ProcId) (p : ℕ) → is_among (qs ++ q ∷ []) p ≡ (is_among qs p || (q.0 == p))
among_push [] q p = or_none (q.0 == p) false refl
among_push (x ∷ qs) q p =
    ap (λ t. (x.0 == p) || t) (among_push qs q p) ∙ sym (or_assoc (x.0 == p) (is_among qs p) (q.0 == p))

-- what a listener hears, and one process more
parted : (x y h r : Bool) → (((x || y) && h) || r) ≡ (((x && h) || r) || (y && h))
parted true true true r = refl
parted true true false r = sym (or_none r false refl)
parted true false true r = refl
parted true false false r = sym (or_none r false refl)
parted false true true true = refl
parted false true true false = refl
parted false true false r = sym (or_none r false refl)
parted false false h r = sym (or_none r false refl)

found : (row : List Listener) (at : ℕ) (x : Listener) → at < length row → x ≡ get_or row at x → slice_get row at ≡ Some x
found [] at x within is = absurd (omega (arith, within))
found (y ∷ row) zero x within is = ap Some (sym is)
found (y ∷ row) (suc at) x within is = found row at x (omega (arith, within)) is

-- a listener that is seen at a place
pub like_here : (row : List Listener) (at : ℕ) (x : Listener) (edge : Edge) (mask : ℕ) → at < length row → x ≡ get_or row at x → (x.edge ≡ edge) × (x.mask ≡ mask) → IsLike row at edge mask
like_here row at x edge mask within is like = record {
  within = within;
  one = x;
  there = found row at x within is;
  edge_is = like.0;
  mask_is = like.1;
}

module _ (process : ProcId) (edge : Edge) (mask : ℕ) where
  -- a listener with a process alone, behind the others
  pushed_heard : (row : List Listener) (l : Listener) → l.processes.items ≡ process ∷ [] → l.edge ≡ edge → l.mask ≡ mask → (p : ℕ) (a b : List Bit) → heard_by (row ++ l ∷ []) p a b ≡ (heard_by row p a b || ((process.0 == p) && hears_from edge mask 0 a b))
  pushed_heard [] l alone e m p a b =
      or_none (is_among l.processes.items p && hears_from l.edge l.mask 0 a b) false refl
      ∙ ap (λ qs. is_among qs p && hears_from l.edge l.mask 0 a b) alone
      ∙ ap (λ t. t && hears_from l.edge l.mask 0 a b) (or_none (process.0 == p) false refl)
      ∙ ap (λ x. (process.0 == p) && hears_from x l.mask 0 a b) e
      ∙ ap (λ x. (process.0 == p) && hears_from edge x 0 a b) m
  pushed_heard (one ∷ row) l alone e m p a b =
      ap (λ t. (is_among one.processes.items p && hears_from one.edge one.mask 0 a b) || t) (pushed_heard row l alone e m p a b)
      ∙ sym (or_assoc (is_among one.processes.items p && hears_from one.edge one.mask 0 a b) (heard_by row p a b) ((process.0 == p) && hears_from edge mask 0 a b))

  pub joins_pushed : (row : List Listener) (l : Listener) → l.processes.items ≡ process ∷ [] → l.edge ≡ edge → l.mask ≡ mask → Joins process edge mask row (row ++ l ∷ [])
  joins_pushed row l alone e m = record {
    inside = λ n below all. All-push (λ x. AreBelow n x) row l all (subst (λ (qs : List ProcId). All (λ q. q.0 < n) qs) (sym alone) (All-push (λ q. q.0 < n) [] process (All-nil (λ q. q.0 < n)) below));
    heard = pushed_heard row l alone e m;
  }

  -- a listener with a process more
  set_heard : (row : List Listener) (at : ℕ) (one next : Listener) → slice_get row at ≡ Some one → next.processes.items ≡ one.processes.items ++ process ∷ [] → next.edge ≡ edge → next.mask ≡ mask → one.edge ≡ edge → one.mask ≡ mask → (p : ℕ) (a b : List Bit) → heard_by (set row at next) p a b ≡ (heard_by row p a b || ((process.0 == p) && hears_from edge mask 0 a b))
  set_heard [] at one next there more e m f n p a b = absurd (none-some one there)
  set_heard (x ∷ row) zero one next there more e m f n p a b =
      let same : x ≡ one = ap (λ (o : Option Listener). unwrap_or {T = Listener} o x) there in
      ap (λ qs. (is_among qs p && hears_from next.edge next.mask 0 a b) || heard_by row p a b) more
      ∙ ap (λ k. (is_among (one.processes.items ++ process ∷ []) p && hears_from k next.mask 0 a b) || heard_by row p a b) e
      ∙ ap (λ k. (is_among (one.processes.items ++ process ∷ []) p && hears_from edge k 0 a b) || heard_by row p a b) m
      ∙ ap (λ t. (t && hears_from edge mask 0 a b) || heard_by row p a b) (among_push one.processes.items process p)
      ∙ parted (is_among one.processes.items p) (process.0 == p) (hears_from edge mask 0 a b) (heard_by row p a b)
      ∙ ap (λ k. ((is_among one.processes.items p && hears_from k mask 0 a b) || heard_by row p a b) || ((process.0 == p) && hears_from edge mask 0 a b)) (sym f)
      ∙ ap (λ k. ((is_among one.processes.items p && hears_from one.edge k 0 a b) || heard_by row p a b) || ((process.0 == p) && hears_from edge mask 0 a b)) (sym n)
      ∙ ap (λ (y : Listener). ((is_among y.processes.items p && hears_from y.edge y.mask 0 a b) || heard_by row p a b) || ((process.0 == p) && hears_from edge mask 0 a b)) (sym same)
  set_heard (x ∷ row) (suc at) one next there more e m f n p a b =
      ap (λ t. (is_among x.processes.items p && hears_from x.edge x.mask 0 a b) || t) (set_heard row at one next there more e m f n p a b)
      ∙ sym (or_assoc (is_among x.processes.items p && hears_from x.edge x.mask 0 a b) (heard_by row p a b) ((process.0 == p) && hears_from edge mask 0 a b))

  set_inside : (row : List Listener) (at : ℕ) (one next : Listener) → slice_get row at ≡ Some one → next.processes.items ≡ one.processes.items ++ process ∷ [] → (n : ℕ) → process.0 < n → All (λ l. AreBelow n l) row → All (λ l. AreBelow n l) (set row at next)
  set_inside [] at one next there more n below all = all
  set_inside (x ∷ row) zero one next there more n below all =
      let same : x ≡ one = ap (λ (o : Option Listener). unwrap_or {T = Listener} o x) there in
      All-cons (λ l. AreBelow n l) next row
      (subst (λ (qs : List ProcId). All (λ q. q.0 < n) qs) (sym more) (All-push (λ q. q.0 < n) one.processes.items process (subst (λ (y : Listener). AreBelow n y) same (All-head (λ l. AreBelow n l) x row all)) below))
      (All-tail (λ l. AreBelow n l) x row all)
  set_inside (x ∷ row) (suc at) one next there more n below all =
      All-cons (λ l. AreBelow n l) x (set row at next) (All-head (λ l. AreBelow n l) x row all)
      (set_inside row at one next there more n below (All-tail (λ l. AreBelow n l) x row all))

  pub joins_set : (row : List Listener) (at : ℕ) (one next : Listener) → slice_get row at ≡ Some one → next.processes.items ≡ one.processes.items ++ process ∷ [] → next.edge ≡ edge → next.mask ≡ mask → one.edge ≡ edge → one.mask ≡ mask → Joins process edge mask row (set row at next)
  joins_set row at one next there more e m f n = record {
    inside = set_inside row at one next there more;
    heard = set_heard row at one next there more e m f n;
  }

  -- what a loan of a listener leaves, with a process more
  pub joins_there : (row : List Listener) (at : ℕ) (x : Listener) → IsLike row at edge mask → x ≡ get_or row at x → (processes : Vec ProcId Global) → processes.items ≡ x.processes.items ++ process ∷ [] → Joins process edge mask row (set row at (record { processes = processes; edge = x.edge; mask = x.mask }))
  joins_there row at x like is processes more =
      let here = found row at x like.within is in
      let same : like.one ≡ x = ap (λ (o : Option Listener). unwrap_or {T = Listener} o x) (sym like.there ∙ here) in
      let e : x.edge ≡ edge = ap (λ (y : Listener). y.edge) (sym same) ∙ like.edge_is in
      let m : x.mask ≡ mask = ap (λ (y : Listener). y.mask) (sym same) ∙ like.mask_is in
      joins_set row at x (record { processes = processes; edge = x.edge; mask = x.mask }) here more e m e m
