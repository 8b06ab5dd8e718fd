-- Doubtful signals are marks.
use Rattle.std.specs.Prelude.{◌↔◌}
use Rattle.std.proofs.Common.{◌≡◌, ◌∙◌, ℕ, Bool, true, List, Option, Some, ap, refl, subst, sym}
use Rattle.std.specs.List.{flat_map}
use Rattle.rtl_flat.specs.Expression.{Tree}
use Rattle.rtl_flat.specs.Flats.{Flat, widths}
use Rattle.rtl_flat.specs.Flows.{flow_of}
use Rattle.rtl_flat.specs.Paths.{MayWrite, ReadsOutside, reads_outside}
use Rattle.rtl_flat.specs.Process.{Actions, Assign, Comb, Doing, Edge', Piece, Watched}
use Rattle.rtl_flat.proofs.Paths.{decided}
use Rattle.event_model.specs.Queue.{doing_at}
use Rattle.rtl_rule.specs.Parts.{all_of, has_some, index_of, items_of, own_trees, statements, trees, written}
use Rattle.rtl_rule.proofs.Below.{some_at}
use Rattle.rtl_rule.proofs.Lists.{Each, each_right}
use Rattle.check_unknown.specs.Unknowns.{Behind, IsDoubtful}
use Rattle.check_laws.specs.event_laws.Steady.{AreLawful}
use Rattle.check_laws.specs.Expressions.{AreMarked}
use Rattle.check_laws.proofs.event_laws_proofs.Within.{may_read_outside}
use Rattle.check_laws.proofs.Designs.{process_inside}
use Rattle.check_laws.proofs.Sites.{IsTask, task_of}
use Rattle.check_laws.proofs.Temporaries.{reads_within}
use Rattle.net_covers.specs.event_covers.Covers.{IsPlainTree}
use Rattle.net_covers.specs.Marks.{IsMarked}
use Rattle.unknown_laws.specs.Doubt.{DoubtfulAreMarks, MarkedAreMarks, TellsNoUnknown}
use Rattle.unknown_laws.proofs.Choices.{sure_body}
use Rattle.unknown_laws.proofs.Plain.{plain_body, plain_trees}

module _ (d : Flat) (lawful : AreLawful d) (marked : AreMarked d) (none : TellsNoUnknown d) where
  spread : (p : ℕ) (does : Doing) → doing_at d p ≡ Some does → (j l i k : ℕ) → ReadsOutside (flow_of (widths d) does) j l → IsDoubtful d j → MayWrite (flow_of (widths d) does) i k → IsDoubtful d i
  spread p does is j l i k outside doubt may =
      let at = task_of d p does is in
      let flow = flow_of (widths d) does in
      let reads : has_some (widths d) (reads_outside flow) j ≡ true =
      some_at (widths d j) (reads_outside flow j) l (reads_within d lawful p does is j l (may_read_outside flow j l outside)) ((decided flow j l).outside.1 outside) in
      let writes : has_some (widths d) (written d does) i ≡ true =
      some_at (widths d i) (written d does i) k (process_inside d lawful p does is i k may) ((decided flow i k).writes.1 may) in
      Behind p i j at.task at.there doubt
      (subst (λ one. has_some (widths d) (reads_outside (flow_of (widths d) one)) j ≡ true) (sym at.is) reads)
      (subst (λ one. has_some (widths d) (written d one) i ≡ true) (sym at.is) writes)

  -- the expressions of a process outside labels
  plain_of : (p : ℕ) (does : Doing) → IsTask d p does → Each IsPlainTree (trees does)
  plain_of p does at =
      subst (λ one. Each IsPlainTree (trees one)) at.is (plain_trees d marked none.x4 p at.task at.there)

  body_marked : (p : ℕ) (does : Doing) (body : Actions) → IsTask d p does → statements does ≡ all_of body → Each IsPlainTree (flat_map own_trees (all_of body)) → IsMarked d (IsDoubtful d) body
  body_marked p does body at same plain =
      record {
        decides = sure_body d none.u1 none.u2 p at.task at.there body (ap statements at.is ∙ same);
        plain = plain_body body plain;
      }

  comb_marked : (p : ℕ) (list : Option (List Watched)) (body : Actions) → doing_at d p ≡ Some (Comb list body) → IsMarked d (IsDoubtful d) body
  comb_marked p list body is =
      let at = task_of d p (Comb list body) is in
      body_marked p (Comb list body) body at refl (each_right IsPlainTree (flat_map (λ (item : Watched). index_of item.selection) (items_of (Comb list body))) (flat_map own_trees (all_of body)) (plain_of p (Comb list body) at))

  edge_marked : (p : ℕ) (events : List Watched) (body : Actions) → doing_at d p ≡ Some (Edge' events body) → IsMarked d (IsDoubtful d) body
  edge_marked p events body is =
      let at = task_of d p (Edge' events body) is in
      body_marked p (Edge' events body) body at refl (each_right IsPlainTree (flat_map (λ (item : Watched). index_of item.selection) events) (flat_map own_trees (all_of body)) (plain_of p (Edge' events body) at))

  net_plain : (p : ℕ) (target : List Piece) (e : Tree) → doing_at d p ≡ Some (Assign target e) → IsPlainTree e
  net_plain p target e is = (plain_of p (Assign target e) (task_of d p (Assign target e) is)).0

pub doubtful_marks : (d : Flat) → DoubtfulAreMarks d
doubtful_marks d lawful marked none =
    record {
      spreads = spread d lawful marked none;
      nets = net_plain d lawful marked none;
      blocks = comb_marked d lawful marked none;
      clocked = edge_marked d lawful marked none;
    }

marked_body : (d : Flat) (marked : ℕ → Bool) → ((i : ℕ) → marked i ≡ true ↔ IsDoubtful d i) → (body : Actions) → IsMarked d (IsDoubtful d) body → IsMarked d (λ i. marked i ≡ true) body
marked_body d marked are body h =
    record { decides = λ i k is mark. h.decides i k is ((are i).0 mark); plain = h.plain }

pub marked_marks : (d : Flat) → MarkedAreMarks d
marked_marks d lawful marked' none marked are =
    let marks = doubtful_marks d lawful marked' none in
    record {
      spreads = λ p does is j l i k outside mark may.
          (are i).1 (marks.spreads p does is j l i k outside ((are j).0 mark) may);
      nets = marks.nets;
      blocks = λ p list body is. marked_body d marked are body (marks.blocks p list body is);
      clocked = λ p events body is. marked_body d marked are body (marks.clocked p events body is);
    }
