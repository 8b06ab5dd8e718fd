-- Steps without faults, one after the other.
use Rattle.std.specs.Prelude.{ℕ, zero, suc, ◌+◌, ◌-◌, ◌≤◌, List, [], ◌∷◌, ◌++◌, length, Option, None, Some}
use Rattle.std.proofs.Common.{◌≡◌, refl, arith}
use Rattle.elab_body.specs.elab_scope.Faults.{Refusal}
use Rattle.elab_body.proofs.elab_scope_proofs.Fitting.{no_cons}
use Rattle.elab_body.specs.elab_nodes.Spares.{spared}
use Rattle.elab_body.proofs.elab_nodes_proofs.Sparing.{spared_behind, spared_few}
use Rattle.elab_body.specs.Steps.{Step, Faulty, Statement, Turn, Delay, Nodes, faulty, checked, delays_of, where_spared}
use Rattle.elab_body.specs.Faultless.{AreFaultless, node_total, statement_count}

pub faultless_left : (xs ys : List Step) → AreFaultless (xs ++ ys) → AreFaultless xs
faultless_left [] ys h = tt
faultless_left (Faulty told ∷ xs) ys h = h
faultless_left (Statement at ∷ xs) ys h = faultless_left xs ys h
faultless_left (Turn at ∷ xs) ys h = faultless_left xs ys h
faultless_left (Delay at ∷ xs) ys h = faultless_left xs ys h
faultless_left (Nodes at count ∷ xs) ys h = faultless_left xs ys h

pub faultless_right : (xs ys : List Step) → AreFaultless (xs ++ ys) → AreFaultless ys
faultless_right [] ys h = h
faultless_right (Faulty told ∷ xs) ys h = absurd h
faultless_right (Statement at ∷ xs) ys h = faultless_right xs ys h
faultless_right (Turn at ∷ xs) ys h = faultless_right xs ys h
faultless_right (Delay at ∷ xs) ys h = faultless_right xs ys h
faultless_right (Nodes at count ∷ xs) ys h = faultless_right xs ys h

pub no_faults : (faults : List Refusal) → AreFaultless (faulty faults) → faults ≡ []
no_faults [] h = refl
no_faults (x ∷ faults) h = absurd h

pub count_append : (xs ys : List Step) → statement_count (xs ++ ys) ≡ statement_count xs + statement_count ys
count_append [] ys = omega arith
count_append (Faulty told ∷ xs) ys = count_append xs ys
count_append (Statement at ∷ xs) ys = omega (arith, count_append xs ys)
count_append (Turn at ∷ xs) ys = omega (arith, count_append xs ys)
count_append (Delay at ∷ xs) ys = count_append xs ys
count_append (Nodes at count ∷ xs) ys = count_append xs ys

pub count_faulty : (faults : List Refusal) → statement_count (faulty faults) ≡ 0
count_faulty [] = refl
count_faulty (x ∷ faults) = count_faulty faults

-- where nothing is told behind nodes, some are left behind them
behind_nodes : (P : Type 0) (at nodes count : ℕ) (next : ℕ → List Refusal) → ((left : ℕ) → spared nodes count ≡ Some left → next left ≡ [] → P) → (spare : Option ℕ) → spared nodes count ≡ spare → where_spared at spare next ≡ [] → P
behind_nodes P at nodes count next here None is h = absurd (no_cons _ _ h)
behind_nodes P at nodes count next here (Some left) is h = here left is h

-- where nothing is told of a body that has limits, it has no faults
pub checked_faultless : (statements delays nodes : ℕ) (steps : List Step) → checked statements delays nodes steps ≡ [] → AreFaultless steps
checked_faultless s d n [] h = tt
checked_faultless s d n (Faulty told ∷ steps) h = absurd (no_cons _ _ h)
checked_faultless zero d n (Statement at ∷ steps) h = absurd (no_cons _ _ h)
checked_faultless (suc s) d n (Statement at ∷ steps) h = checked_faultless s d n steps h
checked_faultless zero d n (Turn at ∷ steps) h = absurd (no_cons _ _ h)
checked_faultless (suc s) d n (Turn at ∷ steps) h = checked_faultless s d n steps h
checked_faultless zero zero n (Delay at ∷ steps) h = absurd (no_cons _ _ h)
checked_faultless (suc s) zero n (Delay at ∷ steps) h = absurd (no_cons _ _ h)
checked_faultless zero (suc d) n (Delay at ∷ steps) h = checked_faultless zero d n steps h
checked_faultless (suc s) (suc d) n (Delay at ∷ steps) h = checked_faultless (suc s) d n steps h
checked_faultless zero zero n (Nodes at count ∷ steps) h =
    behind_nodes (AreFaultless steps) at n count (λ left. checked zero zero left steps) (λ left is g. checked_faultless zero zero left steps g) (spared n count) refl h
checked_faultless zero (suc d) n (Nodes at count ∷ steps) h =
    behind_nodes (AreFaultless steps) at n count (λ left. checked zero (suc d) left steps) (λ left is g. checked_faultless zero (suc d) left steps g) (spared n count) refl h
checked_faultless (suc s) zero n (Nodes at count ∷ steps) h =
    behind_nodes (AreFaultless steps) at n count (λ left. checked (suc s) zero left steps) (λ left is g. checked_faultless (suc s) zero left steps g) (spared n count) refl h
checked_faultless (suc s) (suc d) n (Nodes at count ∷ steps) h =
    behind_nodes (AreFaultless steps) at n count (λ left. checked (suc s) (suc d) left steps) (λ left is g. checked_faultless (suc s) (suc d) left steps g) (spared n count) refl h

-- and no more statements than are allowed
pub checked_count : (statements delays nodes : ℕ) (steps : List Step) → checked statements delays nodes steps ≡ [] → statement_count steps ≤ statements
checked_count s d n [] h = omega arith
checked_count s d n (Faulty told ∷ steps) h = absurd (no_cons _ _ h)
checked_count zero d n (Statement at ∷ steps) h = absurd (no_cons _ _ h)
checked_count (suc s) d n (Statement at ∷ steps) h = omega (arith, checked_count s d n steps h)
checked_count zero d n (Turn at ∷ steps) h = absurd (no_cons _ _ h)
checked_count (suc s) d n (Turn at ∷ steps) h = omega (arith, checked_count s d n steps h)
checked_count zero zero n (Delay at ∷ steps) h = absurd (no_cons _ _ h)
checked_count (suc s) zero n (Delay at ∷ steps) h = absurd (no_cons _ _ h)
checked_count zero (suc d) n (Delay at ∷ steps) h = checked_count zero d n steps h
checked_count (suc s) (suc d) n (Delay at ∷ steps) h = checked_count (suc s) d n steps h
checked_count zero zero n (Nodes at count ∷ steps) h =
    behind_nodes (statement_count steps ≤ zero) at n count (λ left. checked zero zero left steps) (λ left is g. checked_count zero zero left steps g) (spared n count) refl h
checked_count zero (suc d) n (Nodes at count ∷ steps) h =
    behind_nodes (statement_count steps ≤ zero) at n count (λ left. checked zero (suc d) left steps) (λ left is g. checked_count zero (suc d) left steps g) (spared n count) refl h
checked_count (suc s) zero n (Nodes at count ∷ steps) h =
    behind_nodes (statement_count steps ≤ (suc s)) at n count (λ left. checked (suc s) zero left steps) (λ left is g. checked_count (suc s) zero left steps g) (spared n count) refl h
checked_count (suc s) (suc d) n (Nodes at count ∷ steps) h =
    behind_nodes (statement_count steps ≤ (suc s)) at n count (λ left. checked (suc s) (suc d) left steps) (λ left is g. checked_count (suc s) (suc d) left steps g) (spared n count) refl h

-- nor more delays
pub checked_delays : (statements delays nodes : ℕ) (steps : List Step) → checked statements delays nodes steps ≡ [] → length (delays_of steps) ≤ delays
checked_delays s d n [] h = omega arith
checked_delays s d n (Faulty told ∷ steps) h = absurd (no_cons _ _ h)
checked_delays zero d n (Statement at ∷ steps) h = absurd (no_cons _ _ h)
checked_delays (suc s) d n (Statement at ∷ steps) h = checked_delays s d n steps h
checked_delays zero d n (Turn at ∷ steps) h = absurd (no_cons _ _ h)
checked_delays (suc s) d n (Turn at ∷ steps) h = checked_delays s d n steps h
checked_delays zero zero n (Delay at ∷ steps) h = absurd (no_cons _ _ h)
checked_delays (suc s) zero n (Delay at ∷ steps) h = absurd (no_cons _ _ h)
checked_delays zero (suc d) n (Delay at ∷ steps) h = omega (arith, checked_delays zero d n steps h)
checked_delays (suc s) (suc d) n (Delay at ∷ steps) h = omega (arith, checked_delays (suc s) d n steps h)
checked_delays zero zero n (Nodes at count ∷ steps) h =
    behind_nodes (length (delays_of steps) ≤ zero) at n count (λ left. checked zero zero left steps) (λ left is g. checked_delays zero zero left steps g) (spared n count) refl h
checked_delays zero (suc d) n (Nodes at count ∷ steps) h =
    behind_nodes (length (delays_of steps) ≤ (suc d)) at n count (λ left. checked zero (suc d) left steps) (λ left is g. checked_delays zero (suc d) left steps g) (spared n count) refl h
checked_delays (suc s) zero n (Nodes at count ∷ steps) h =
    behind_nodes (length (delays_of steps) ≤ zero) at n count (λ left. checked (suc s) zero left steps) (λ left is g. checked_delays (suc s) zero left steps g) (spared n count) refl h
checked_delays (suc s) (suc d) n (Nodes at count ∷ steps) h =
    behind_nodes (length (delays_of steps) ≤ (suc d)) at n count (λ left. checked (suc s) (suc d) left steps) (λ left is g. checked_delays (suc s) (suc d) left steps g) (spared n count) refl h

nodes_few : (left nodes count more : ℕ) → spared nodes count ≡ Some left → more ≤ left → count + more ≤ nodes
nodes_few left nodes count more is few =
    let behind : left ≡ nodes - count = spared_behind nodes count left is in
    let enough : count ≤ nodes = spared_few nodes count left is in
    omega arith

-- nor more nodes
pub checked_nodes : (statements delays nodes : ℕ) (steps : List Step) → checked statements delays nodes steps ≡ [] → node_total steps ≤ nodes
checked_nodes s d n [] h = omega arith
checked_nodes s d n (Faulty told ∷ steps) h = absurd (no_cons _ _ h)
checked_nodes zero d n (Statement at ∷ steps) h = absurd (no_cons _ _ h)
checked_nodes (suc s) d n (Statement at ∷ steps) h = checked_nodes s d n steps h
checked_nodes zero d n (Turn at ∷ steps) h = absurd (no_cons _ _ h)
checked_nodes (suc s) d n (Turn at ∷ steps) h = checked_nodes s d n steps h
checked_nodes zero zero n (Delay at ∷ steps) h = absurd (no_cons _ _ h)
checked_nodes (suc s) zero n (Delay at ∷ steps) h = absurd (no_cons _ _ h)
checked_nodes zero (suc d) n (Delay at ∷ steps) h = checked_nodes zero d n steps h
checked_nodes (suc s) (suc d) n (Delay at ∷ steps) h = checked_nodes (suc s) d n steps h
checked_nodes zero zero n (Nodes at count ∷ steps) h =
    behind_nodes (count + node_total steps ≤ n) at n count (λ left. checked zero zero left steps) (λ left is g. nodes_few left n count (node_total steps) is (checked_nodes zero zero left steps g)) (spared n count) refl h
checked_nodes zero (suc d) n (Nodes at count ∷ steps) h =
    behind_nodes (count + node_total steps ≤ n) at n count (λ left. checked zero (suc d) left steps) (λ left is g. nodes_few left n count (node_total steps) is (checked_nodes zero (suc d) left steps g)) (spared n count) refl h
checked_nodes (suc s) zero n (Nodes at count ∷ steps) h =
    behind_nodes (count + node_total steps ≤ n) at n count (λ left. checked (suc s) zero left steps) (λ left is g. nodes_few left n count (node_total steps) is (checked_nodes (suc s) zero left steps g)) (spared n count) refl h
checked_nodes (suc s) (suc d) n (Nodes at count ∷ steps) h =
    behind_nodes (count + node_total steps ≤ n) at n count (λ left. checked (suc s) (suc d) left steps) (λ left is g. nodes_few left n count (node_total steps) is (checked_nodes (suc s) (suc d) left steps g)) (spared n count) refl h
