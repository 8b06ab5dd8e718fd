-- Chains by their ends, in the words of a pass from the last directive to the first.
use Rattle.std.specs.Prelude.{ℕ, zero, suc, ◌+◌, ◌<◌, ◌≤◌, ◌||◌, Bool, true, false, Option, Some, None, List, [], ◌∷◌, ◌++◌, length, drop, reverse, get_or}
use Rattle.std.specs.Option.{option_map}
use Rattle.std.proofs.Common.{◌≡◌, refl, sym, ap, ◌∙◌, subst, cond}
use Rattle.std.proofs.lemmas.List.{reverse-append}
use Rattle.rtl_prep.specs.declared.chains.Close.{Close}
use Rattle.rtl_prep.specs.declared.conditions.Span.{Span}
use Rattle.rtl_prep.specs.declared.notices.Notice as code
use Rattle.rtl_prep.specs.Conditions.{Notice, is_opening, is_ending, is_naming, also, close_at, close, span, chains}
use Rattle.rtl_prep.specs.Passes.{seen, all_seen, Closing, marked, first_end, outer, ended, closes_on}
use Rattle.rtl_prep.proofs.Asked.{left_at, ends_at}

-- the end of a chain within which so many others are open
pub held : List Close → ℕ → Option Close
held [] n = None
held (c ∷ cs) zero = Some c
held (c ∷ cs) (suc n) = option_map (also c.defines) (held cs n)

-- before these directives
pub record Before (c : Closing) (left : List Notice) : Type 0 where
  pub ends : (n : ℕ) → held c.ends n ≡ close n left
  pub chains : reverse c.chains ≡ chains left

both_or : (a b c : Bool) → ((a || b) || c) ≡ (a || (b || c))
both_or true b c = refl
both_or false b c = refl

both_also : (a b : Bool) (o : Option Close) → option_map (also (a || b)) o ≡ option_map (also a) (option_map (also b) o)
both_also a b None = refl
both_also a b (Some c) = ap (λ defines. Some (record { to = c.to; defines = defines })) (both_or a b c.defines)

no_more : (o : Option Close) → option_map (also false) o ≡ o
no_more None = refl
no_more (Some c) = refl

held_marked : (b : Bool) (cs : List Close) (n : ℕ) → held (marked b cs) n ≡ option_map (also b) (held cs n)
unfolding held
held_marked b [] n = refl
held_marked b (c ∷ cs) zero = refl
held_marked b (c ∷ cs) (suc n) = both_also b c.defines (held cs n)

held_outer : (cs : List Close) (n : ℕ) → held (outer cs) n ≡ held cs (suc n)
unfolding held
held_outer [] n = refl
held_outer (c ∷ cs) n = held_marked c.defines cs n

held_first : (cs : List Close) → first_end cs ≡ held cs 0
unfolding held
held_first [] = refl
held_first (c ∷ cs) = refl

held_ended : (at : ℕ) (cs : List Close) (left : List Notice) (n : ℕ) → ((m : ℕ) → held cs m ≡ close m left) → held (ended at ∷ cs) n ≡ close_at n at (λ fewer. close fewer left)
unfolding held
held_ended at cs left zero h = refl
held_ended at cs left (suc n) h = no_more (held cs n) ∙ h n

more_reversed : (ss : List Span) (s : Span) → reverse (ss ++ s ∷ []) ≡ s ∷ reverse ss
more_reversed ss s = reverse-append ss (s ∷ [])

close_first : (m : ℕ) (n : Notice) (ns : List Notice)
    → close m (n ∷ ns) ≡ cond (is_opening n.known) (close (suc m) ns) (cond (is_ending n.known) (close_at m n.at (λ fewer. close fewer ns)) (option_map (also (is_naming n.known)) (close m ns)))
unfolding close
close_first m n ns = refl

chains_first : (n : Notice) (ns : List Notice) → chains (n ∷ ns) ≡ cond (is_opening n.known) (span n.at (close 0 ns) ∷ []) [] ++ chains ns
unfolding chains
chains_first n ns = refl

abbrev made : Bool → Bool → Bool → ℕ → Closing → Closing
made b e d at c =
    cond b (record { ends = outer c.ends; chains = c.chains ++ span at (first_end c.ends) ∷ [] })
    (cond e (record { ends = ended at ∷ c.ends; chains = c.chains }) (record { ends = marked d c.ends; chains = c.chains }))

ends_by : (b e d : Bool) (at : ℕ) (c : Closing) (left : List Notice) (m : ℕ) → ((m : ℕ) → held c.ends m ≡ close m left)
    → held (made b e d at c).ends m ≡ cond b (close (suc m) left) (cond e (close_at m at (λ fewer. close fewer left)) (option_map (also d) (close m left)))
ends_by true e d at c left m h = held_outer c.ends m ∙ h (suc m)
ends_by false true d at c left m h = held_ended at c.ends left m h
ends_by false false d at c left m h = held_marked d c.ends m ∙ ap (option_map (also d)) (h m)

chains_by : (b e d : Bool) (at : ℕ) (c : Closing) (left : List Notice) → held c.ends 0 ≡ close 0 left → reverse c.chains ≡ chains left
    → reverse (made b e d at c).chains ≡ cond b (span at (close 0 left) ∷ []) [] ++ chains left
chains_by true e d at c left f h =
    more_reversed c.chains (span at (first_end c.ends))
    ∙ ap (λ o. span at o ∷ reverse c.chains) (held_first c.ends ∙ f)
    ∙ ap (λ ss. span at (close 0 left) ∷ ss) h
chains_by false true d at c left f h = h
chains_by false false d at c left f h = h

turn : (c : Closing) (n : Notice) (ns : List Notice) → Before c ns → Before (closes_on c n) (n ∷ ns)
unfolding closes_on
turn c n ns h = record {
  ends = λ m. ends_by (is_opening n.known) (is_ending n.known) (is_naming n.known) n.at c ns m h.ends ∙ sym (close_first m n ns);
  chains = chains_by (is_opening n.known) (is_ending n.known) (is_naming n.known) n.at c ns (h.ends 0) h.chains ∙ sym (chains_first n ns);
}

-- ---- a loop over the directives

pub begins : (c : Closing) (ns : List code.Notice) (i : ℕ) → length ns ≤ i → c.ends ≡ [] → c.chains ≡ [] → Before c (all_seen (drop i ns))
unfolding held close chains
begins c ns i h e f =
    subst (λ left. Before c left) (sym (ends_at ns i h))
    (record { ends = λ n. ap (λ cs. held cs n) e; chains = ap reverse f })

pub goes_on : (c c' : Closing) (ns : List code.Notice) (i j : ℕ) (d : code.Notice) → i ≡ j + 1 → j < length ns → c' ≡ closes_on c (seen (get_or ns j d)) → Before c (all_seen (drop i ns))
    → Before c' (all_seen (drop j ns))
goes_on c c' ns i j d p h e b =
    subst (λ left. Before c' left) (sym (left_at ns j d h))
    (subst (λ x. Before x (seen (get_or ns j d) ∷ all_seen (drop (j + 1) ns))) (sym e)
    (turn c (seen (get_or ns j d)) (all_seen (drop (j + 1) ns)) (subst (λ k. Before c (all_seen (drop k ns))) p b)))

pub all_closed : (c : Closing) (ns : List code.Notice) (i : ℕ) → i ≡ 0 → Before c (all_seen (drop i ns)) → reverse c.chains ≡ chains (all_seen ns)
all_closed c ns i e b = (subst (λ k. Before c (all_seen (drop k ns))) e b).chains
