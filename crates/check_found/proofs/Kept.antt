-- The sets that a scan of all processes found, as those that rules ask for.
use Rattle.std.proofs.Common.{ℕ, ◌≡◌, ◌∙◌, true, List, length, map, Some, sym, subst}
use Rattle.std.specs.Prelude.{◌↔◌}
use Rattle.std.specs.List.{slice_get}
use Rattle.rtl_flat.specs.declared.design.Design.{Design}
use Rattle.rtl_flat.specs.PathSets.{Lists, OfProcess}
use Rattle.rtl_flat.specs.Paths.{BitSet, MayWrite, ReadsOutside, may_write, reads_outside}
use Rattle.rtl_flat.specs.Process.{Task, task}
use Rattle.rtl_flat.proofs.Paths.{decided}
use Rattle.rtl_flat.specs.Flats.{flat}
use Rattle.rtl_scan.specs.declared.accesses.Accesses.{Accesses}
use Rattle.rtl_scan.specs.declared.bits.Bits.{Bits}
use Rattle.rtl_scan.specs.declared.feeds.Accessed.{Accessed}
use Rattle.rtl_scan.specs.Accesses.{AreAccesses, AreOfEach}
use Rattle.rtl_scan.specs.Arrows.{AreAccessed, AreOf}
use Rattle.rtl_scan.specs.Sets.{has_rows}
use Rattle.rtl_scan.proofs.Processes.{length-tasks}
use Rattle.check_found.specs.declared.scans.Scans.{Scans}
use Rattle.check_found.specs.Scanned.{AreScans, AreSets, Asked, Listed, Outside, Written, set_of}
use Rattle.check_found.proofs.Decided.{as_list, as_set}
use Rattle.check_found.proofs.Sites.{task_count}

module _ (design : Design) (accesses : Accesses) (are : AreAccesses design.signals.items (map task design.processes.items) accesses) where
  -- where a condition decides what is asked
  kept : (asked : Asked) (P : ℕ → ℕ → ℕ → Type 0) (sets : List Bits) →
      ((p : ℕ) (found : BitSet) → ((s k : ℕ) → found s k ≡ true ↔ P p s k) → (one : Task) → slice_get (flat design).tasks p ≡ Some one → (s k : ℕ) → found s k ≡ set_of (flat design) asked one s k) →
      AreOfEach P (length (map task design.processes.items)) sets → AreSets (flat design) asked (length design.processes.items) sets
  kept asked P sets means each =
      subst (λ n. AreSets (flat design) asked n sets) (sym (length-tasks design.processes.items))
      (record {
        many = each.many;
        each = λ p found there. record {
          bits = means p (has_rows found.rows.items) (each.each p found there).bits;
          order = (each.each p found there).order;
        };
      })

  pub written_kept : AreSets (flat design) Written (length design.processes.items) accesses.writes.items
  written_kept =
      kept Written (OfProcess MayWrite design.signals.items (map task design.processes.items)) accesses.writes.items
      (as_set MayWrite may_write (λ flow s k. (decided flow s k).writes) design) are.writes

  pub outside_kept : AreSets (flat design) Outside (length design.processes.items) accesses.reads.items
  outside_kept =
      kept Outside (OfProcess ReadsOutside design.signals.items (map task design.processes.items)) accesses.reads.items
      (as_set ReadsOutside reads_outside (λ flow s k. (decided flow s k).outside) design) are.reads

  pub listed_kept : AreSets (flat design) Listed (length design.processes.items) accesses.lists.items
  listed_kept =
      kept Listed (Lists design.signals.items (map task design.processes.items)) accesses.lists.items (as_list design) are.lists

-- as the graph of who feeds whom takes them
of_sets : (design : Design) (asked : Asked) (sets : List Bits) → AreSets (flat design) asked (length design.processes.items) sets → AreOf (set_of (flat design) asked) (flat design).tasks sets
of_sets design asked sets are = record {
  many = are.many ∙ sym (task_count design);
  each = λ p found task there at. (are.each p found there).bits task at;
}

pub accessed_kept : (scans : Scans) → AreScans scans → (given : Accessed) → given.design.now ≡ scans.design.now → given.writes.now ≡ scans.written.items → given.reads.now ≡ scans.outside.items → given.lists.now ≡ scans.listed.items → AreAccessed given
accessed_kept scans are given same writes reads lists = record {
  writes = moved Written writes (of_sets scans.design.now Written scans.written.items are.written);
  reads = moved Outside reads (of_sets scans.design.now Outside scans.outside.items are.outside);
  lists = moved Listed lists (of_sets scans.design.now Listed scans.listed.items are.listed);
}
  where
    moved : (asked : Asked) {there sets : List Bits} → there ≡ sets → AreOf (set_of (flat scans.design.now) asked) (flat scans.design.now).tasks sets → AreOf (set_of (flat given.design.now) asked) (flat given.design.now).tasks there
    moved asked {there} same' is =
        subst (λ d. AreOf (set_of (flat d) asked) (flat d).tasks there) (sym same)
        (subst (λ xs. AreOf (set_of (flat scans.design.now) asked) (flat scans.design.now).tasks xs) (sym same') is)
