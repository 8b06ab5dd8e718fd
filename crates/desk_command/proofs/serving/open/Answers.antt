use Rattle.std.proofs.Common.{◌∙◌, ℕ, Ok, Err, refl, subst}
use Rattle.desk_io.specs.Causes.{Rose}
use Rattle.desk_command.specs.Commands.{Linked, Shut}
use Rattle.desk_command.proofs.Served.{behind, desk_serves, stays_shut}
use Rattle.desk_command.proofs.serving.open.Goals as goal

pub returns-in-Ok-serve_links-clause-linked : goal.returns-in-Ok-serve_links-clause-linked
returns-in-Ok-serve_links-clause-linked g c =
    Linked c.serve_links.new.service.kept (Ok c.in-Ok-serve_links.field-0)
    (behind c.args.port _ (g.D.Door.visits c.args.door.now) (g.D.Door.visits c.listen.new.self) (g.D.Door.visits c.serve_links.new.door) _ c.in-Ok.ensures.opens
    (desk_serves c.args.count _ _ _ c.args.desk.now.kept c.serve_links.new.service.kept (g.D.Door.visits c.listen.new.self) (g.D.Door.visits c.serve_links.new.door) c.in-Ok-serve_links.ensures.serves))
    (refl, c.in-Ok-serve_links.ensures.calm ∙ c.in-Ok.ensures.calm)

pub returns-in-Err-serve_links-clause-linked : goal.returns-in-Err-serve_links-clause-linked
returns-in-Err-serve_links-clause-linked g c =
    Linked c.serve_links.new.service.kept (Err c.in-Err-serve_links.field-0)
    (behind c.args.port _ (g.D.Door.visits c.args.door.now) (g.D.Door.visits c.listen.new.self) (g.D.Door.visits c.serve_links.new.door) _ c.in-Ok.ensures.opens
    (desk_serves c.args.count _ _ _ c.args.desk.now.kept c.serve_links.new.service.kept (g.D.Door.visits c.listen.new.self) (g.D.Door.visits c.serve_links.new.door) c.in-Err-serve_links.ensures.serves))
    (refl, subst (λ (faults : ℕ). Rose faults (g.D.Door.faults c.serve_links.new.door)) c.in-Ok.ensures.calm c.in-Err-serve_links.ensures.cause)

pub returns-in-Err-clause-linked : goal.returns-in-Err-clause-linked
returns-in-Err-clause-linked g c =
    Shut refl c.in-Err.ensures.cause.failed
    (stays_shut c.args.port _ (g.D.Door.visits c.args.door.now) (g.D.Door.visits c.listen.new.self) c.in-Err.ensures.opens)
    refl
