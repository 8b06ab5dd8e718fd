-- The roles of top inputs.
use Rattle.std.proofs.Common.{◌≡◌, ◌∙◌, ℕ, zero, suc, ◌+◌, ◌<◌, ◌≤◌, Bool, true, false, List, [], ◌∷◌, ◌++◌, length, map, get_or, replicate, set, Option, None, Some, refl, sym, ap, subst, inl, inr, arith}
use Rattle.std.specs.Prelude.{◌⊎◌, ◌↔◌, Vec}
use Rattle.std.specs.List.{All, flat_map, slice_get}
use Rattle.std.specs.Option.{IsSomeAnd}
use Rattle.std.specs.declared.alloc.Global.{Global}
use Rattle.std.proofs.lemmas.Bool.{both_ways, cases_eq, false≢true}
use Rattle.std.proofs.lemmas.List.{get_or-set_same, get_or-set_other, length-replicate, length-set}
use Rattle.std.proofs.lemmas.List.Elements.{All-cons, All-nil}
use Rattle.std.proofs.lemmas.Option.{none-some, same_Some}
use Rattle.rtl_flat.specs.declared.signal.Kind.{Kind}
use Rattle.rtl_flat.specs.declared.signal.Kind.TheVariants.{TopInput, Net, Var}
use Rattle.rtl_flat.specs.declared.signal.Signal.{Signal}
use Rattle.rtl_flat.specs.Process.{Task}
use Rattle.rtl_flat.specs.Signs.{Has}
use Rattle.net_model.specs.Cycle.{Chain, Guard}
use Rattle.rtl_flat.specs.Flats.{Flat}
use Rattle.check_gates.specs.check_chains.rtl_scan.Arrows.{Among}
use Rattle.check_gates.specs.check_chains.rtl_scan.Graph.{row}
use Rattle.check_gates.specs.check_chains.Chains.{chain_of}
use Rattle.check_gates.specs.check_chains.Views.{chain_view, guard_view}
use Rattle.check_gates.specs.check_chains.declared.chain.Chain as code_chain
use Rattle.check_gates.specs.check_chains.declared.chain.Guard as code
use Rattle.check_clocks.specs.Clocks.{IsClockOf, IsResetOf}
use Rattle.net_model.specs.Gates.{ComesFrom, GoesTo}
use Rattle.check_gates.specs.Links.{AreRows, IsPut}
use Rattle.check_gates.specs.Reach.{Here, Onward, Reaches}
use Rattle.event_model.specs.Queue.{is_input_kind, is_input_of}
use Rattle.check_gates.specs.Tops.{AreMarkedAlso, AreTops, IsNoted, IsNotedFor}
use Rattle.check_clocks.specs.Roles.{AreRoles, NotesChain}
use Rattle.check_clocks.specs.declared.roles.Roles.{Roles}
use Rattle.check_gates.proofs.Reached.{among_cases, among_left, among_right, none_marked}
use Rattle.check_gates.proofs.Topped.{comes_from, top_below}

module _ (d : Flat) (tops : List (Vec ℕ Global)) (are : AreTops d (length d.signals) tops) where
  -- the row of a chain's clock, and the rows of its resets
  abbrev reset_tops : Chain → List ℕ
  reset_tops chain = flat_map (λ (guard : Guard). row tops guard.item.signal) chain.resets

  reset_at : (guards : List Guard) (t : ℕ) → Among (flat_map (λ (guard : Guard). row tops guard.item.signal) guards) t → (place : ℕ) × IsSomeAnd (slice_get guards place) (λ guard. ComesFrom d t guard.item.signal)
  reset_at [] t h = absurd h
  reset_at (guard ∷ guards) t h = elim (among_cases (row tops guard.item.signal) (flat_map (λ (one : Guard). row tops one.item.signal) guards) t h) [
    | inl here ↦ (0, (comes_from d tops are guard.item.signal t).0 here)
    | inr later ↦ let (place, is) = reset_at guards t later in (suc place, is)
  ]

  reset_among : (guards : List Guard) (t place : ℕ) → IsSomeAnd (slice_get guards place) (λ guard. ComesFrom d t guard.item.signal) → Among (flat_map (λ (guard : Guard). row tops guard.item.signal) guards) t
  reset_among [] t place h = absurd h
  reset_among (guard ∷ guards) t zero h =
      among_left (row tops guard.item.signal) (flat_map (λ (one : Guard). row tops one.item.signal) guards) t ((comes_from d tops are guard.item.signal t).1 h)
  reset_among (guard ∷ guards) t (suc place) h =
      among_right (row tops guard.item.signal) (flat_map (λ (one : Guard). row tops one.item.signal) guards) t (reset_among guards t place h)

  pub roles_none : (clocks resets : List Bool) → clocks ≡ replicate (length d.signals) false → resets ≡ replicate (length d.signals) false → AreRoles d 0 clocks resets
  roles_none clocks resets c r =
      record {
        size = ap length c ∙ length-replicate (length d.signals) false;
        size_of_resets = ap length r ∙ length-replicate (length d.signals) false;
        clock = λ top. (λ h. absurd (both_ways (get_or clocks top false) (ap (λ l. get_or l top false) c ∙ none_marked (length d.signals) top) h), λ h. absurd (omega (arith, h.1)));
        reset = λ top. (λ h. absurd (both_ways (get_or resets top false) (ap (λ l. get_or l top false) r ∙ none_marked (length d.signals) top) h), λ h. absurd (omega (arith, h.1)));
      }

  -- the process with the number n
  module _ (n : ℕ) (task : Task) (there : slice_get d.tasks n ≡ Some task) (clocks resets : List Bool) (roles : AreRoles d n clocks resets) where
    has_to : (chain : Chain) → IsSomeAnd (slice_get d.tasks n) (λ task. chain_of d task.does ≡ Some chain) → chain_of d task.does ≡ Some chain
    has_to chain h = subst (λ o. IsSomeAnd o (λ task. chain_of d task.does ≡ Some chain)) there h

    has_from : (chain : Chain) → chain_of d task.does ≡ Some chain → IsSomeAnd (slice_get d.tasks n) (λ task. chain_of d task.does ≡ Some chain)
    has_from chain h = subst (λ o. IsSomeAnd o (λ task. chain_of d task.does ≡ Some chain)) (sym there) h

    pub roles_pass : chain_of d task.does ≡ None → AreRoles d (n + 1) clocks resets
    roles_pass none =
        record {
          size = roles.size;
          size_of_resets = roles.size_of_resets;
          clock = λ top. (λ h. let (p, below, is) = (roles.clock top).0 h in (p, omega (arith, below), is), clock_from top);
          reset = λ top. (λ h. let (p, below, is) = (roles.reset top).0 h in (p, omega (arith, below), is), reset_from top);
        }
      where
        clock_from : (top : ℕ) → (p : ℕ) × (p < n + 1) × IsClockOf d top p → get_or clocks top false ≡ true
        clock_from top (p, below, is) = elim (cases_eq p n) [
          | inl same ↦ absurd (none-some is.chain (sym none ∙ has_to is.chain (subst (λ q. IsSomeAnd (slice_get d.tasks q) (λ task. chain_of d task.does ≡ Some is.chain)) same is.has)))
          | inr other ↦ (roles.clock top).1 (p, omega (arith, below, other), is)
        ]

        reset_from : (top : ℕ) → (p : ℕ) × (p < n + 1) × IsResetOf d top p → get_or resets top false ≡ true
        reset_from top (p, below, is) = elim (cases_eq p n) [
          | inl same ↦ absurd (none-some is.chain (sym none ∙ has_to is.chain (subst (λ q. IsSomeAnd (slice_get d.tasks q) (λ task. chain_of d task.does ≡ Some is.chain)) same is.has)))
          | inr other ↦ (roles.reset top).1 (p, omega (arith, below, other), is)
        ]

    pub roles_next : (chain : Chain) (clocks' resets' : List Bool) → chain_of d task.does ≡ Some chain → AreMarkedAlso (row tops chain.clock.signal) clocks clocks' → AreMarkedAlso (flat_map (λ (guard : Guard). row tops guard.item.signal) chain.resets) resets resets' → AreRoles d (n + 1) clocks' resets'
    roles_next chain clocks' resets' is c r =
        record {
          size = c.size ∙ roles.size;
          size_of_resets = r.size ∙ roles.size_of_resets;
          clock = λ top. (λ h. clock_to top ((c.each top).0 h), λ h. (c.each top).1 (clock_from top h));
          reset = λ top. (λ h. reset_to top ((r.each top).0 h), λ h. (r.each top).1 (reset_from top h));
        }
      where
        clock_to : (top : ℕ) → (get_or clocks top false ≡ true) ⊎ ((top < length clocks) × Among (row tops chain.clock.signal) top) → (p : ℕ) × (p < n + 1) × IsClockOf d top p
        clock_to top (inl h) = let (p, below, was) = (roles.clock top).0 h in (p, omega (arith, below), was)
        clock_to top (inr h) = (n, omega arith, record { chain = chain; has = has_from chain is; comes = (comes_from d tops are chain.clock.signal top).0 h.1 })

        same_chain : (other : Chain) → IsSomeAnd (slice_get d.tasks n) (λ task. chain_of d task.does ≡ Some other) → other ≡ chain
        same_chain other h = same_Some other chain (sym (has_to other h) ∙ is)

        clock_from : (top : ℕ) → (p : ℕ) × (p < n + 1) × IsClockOf d top p → (get_or clocks top false ≡ true) ⊎ ((top < length clocks) × Among (row tops chain.clock.signal) top)
        clock_from top (p, below, was) = elim (cases_eq p n) [
          | inl same ↦
              let one = same_chain was.chain (subst (λ q. IsSomeAnd (slice_get d.tasks q) (λ task. chain_of d task.does ≡ Some was.chain)) same was.has) in
              let comes = subst (λ (one : Chain). ComesFrom d top one.clock.signal) one was.comes in
              let below = top_below d tops are top chain.clock.signal comes in
              inr (omega (arith, below, roles.size), (comes_from d tops are chain.clock.signal top).1 comes)
          | inr other ↦ inl ((roles.clock top).1 (p, omega (arith, below, other), was))
        ]

        reset_to : (top : ℕ) → (get_or resets top false ≡ true) ⊎ ((top < length resets) × Among (flat_map (λ (guard : Guard). row tops guard.item.signal) chain.resets) top) → (p : ℕ) × (p < n + 1) × IsResetOf d top p
        reset_to top (inl h) = let (p, below, was) = (roles.reset top).0 h in (p, omega (arith, below), was)
        reset_to top (inr h) =
            let (place, comes) = reset_at chain.resets top h.1 in
            (n, omega arith, record { chain = chain; place = place; has = has_from chain is; comes = comes })

        some_below' : (guards : List Guard) (top place : ℕ) → IsSomeAnd (slice_get guards place) (λ guard. ComesFrom d top guard.item.signal) → top < length d.signals
        some_below' [] top place h = absurd h
        some_below' (guard ∷ guards) top zero h = top_below d tops are top guard.item.signal h
        some_below' (guard ∷ guards) top (suc place) h = some_below' guards top place h

        reset_from : (top : ℕ) → (p : ℕ) × (p < n + 1) × IsResetOf d top p → (get_or resets top false ≡ true) ⊎ ((top < length resets) × Among (flat_map (λ (guard : Guard). row tops guard.item.signal) chain.resets) top)
        reset_from top (p, below, was) = elim (cases_eq p n) [
          | inl same ↦
              let one = same_chain was.chain (subst (λ q. IsSomeAnd (slice_get d.tasks q) (λ task. chain_of d task.does ≡ Some was.chain)) same was.has) in
              let comes = subst (λ (one : Chain). IsSomeAnd (slice_get one.resets was.place) (λ guard. ComesFrom d top guard.item.signal)) one was.comes in
              let below = some_below' chain.resets top was.place comes in
              inr (omega (arith, below, roles.size_of_resets), reset_among chain.resets top was.place comes)
          | inr other ↦ inl ((roles.reset top).1 (p, omega (arith, below, other), was))
        ]

    pub roles_noted' : (o : Option Chain) → chain_of d task.does ≡ o → (old new : Roles) → clocks ≡ old.clocks.items → resets ≡ old.resets.items → NotesChain tops o old new → AreRoles d (n + 1) new.clocks.items new.resets.items
    roles_noted' None is old new c r notes =
        subst (λ l. AreRoles d (n + 1) l new.resets.items) (c ∙ sym notes.0) (subst (λ l. AreRoles d (n + 1) clocks l) (r ∙ sym notes.1) (roles_pass is))
    roles_noted' (Some chain) is old new c r notes =
        roles_next chain new.clocks.items new.resets.items is
        (subst (λ l. AreMarkedAlso (row tops chain.clock.signal) l new.clocks.items) (sym c) notes.0)
        (subst (λ l. AreMarkedAlso (flat_map (λ (guard : Guard). row tops guard.item.signal) chain.resets) l new.resets.items) (sym r) notes.1)

  pub roles_noted : (n : ℕ) (task : Task) → slice_get d.tasks n ≡ Some task → (old new : Roles) → AreRoles d n old.clocks.items old.resets.items → NotesChain tops (chain_of d task.does) old new → AreRoles d (n + 1) new.clocks.items new.resets.items
  roles_noted n task there old new roles notes =
      roles_noted' n task there old.clocks.items old.resets.items roles (chain_of d task.does) refl old new refl refl notes

-- resets by their plain forms
pub resets_as : (tops : List (Vec ℕ Global)) (guards : List code.Guard) → flat_map (λ (guard : code.Guard). row tops guard.item.now.signal.0) guards ≡ flat_map (λ (guard : Guard). row tops guard.item.signal) (map guard_view guards)
resets_as tops [] = refl
resets_as tops (guard ∷ guards) = ap (λ l. row tops guard.item.now.signal.0 ++ l) (resets_as tops guards)

-- a chain whose clock and resets were noted
pub chain_noted :
    (tops : List (Vec ℕ Global)) (chain : code_chain.Chain) (old mid new : Roles) (guards : List code.Guard) → guards ≡ chain.resets.items →
    AreMarkedAlso (row tops chain.clock.now.signal.0) old.clocks.items mid.clocks.items → mid.resets.items ≡ old.resets.items → new.clocks.items ≡ mid.clocks.items →
    AreMarkedAlso (flat_map (λ (guard : code.Guard). row tops guard.item.now.signal.0) guards) mid.resets.items new.resets.items → NotesChain tops (Some (chain_view chain)) old new
chain_noted tops chain old mid new guards all clock same_resets same_clocks resets = (
  subst (AreMarkedAlso (row tops chain.clock.now.signal.0) old.clocks.items) (sym same_clocks) clock,
  subst (λ those. AreMarkedAlso those old.resets.items new.resets.items) (ap (flat_map (λ (guard : code.Guard). row tops guard.item.now.signal.0)) all ∙ resets_as tops chain.resets.items)
      (subst (λ marks. AreMarkedAlso (flat_map (λ (guard : code.Guard). row tops guard.item.now.signal.0) guards) marks new.resets.items) same_resets resets),
)
