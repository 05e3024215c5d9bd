use Rattle.std.proofs.Common.{◌∷◌, ap, ◌∙◌, reverse, rules}
use Rattle.std.proofs.lemmas.List.{nil_from_length}
use Rattle.mls_typetext.specs.steps.NameReaders.{tasks_of, known_of}
use Rattle.mls_typetext.proofs.Resolved.{last-first, reads, skips, leaves, marks, gives-fault, gives-items}
use Rattle.mls_typetext.proofs.resolve.resolve.Goals as goal

pub loop-task-preserved-in-Continue-branch-2 : goal.loop-task-preserved-in-Continue-branch-2
loop-task-preserved-in-Continue-branch-2 c =
    reads c.args.pieces.items c.loop-task.left.items (tasks_of c.loop-task.reader) (reverse c.pop.new.self.items) (known_of c.loop-task.reader) c.loop-task.invariant
    c.in-Part.place
    (last-first c.loop-task.reader.tasks.items c.pop.new.self.items c.in-Some.task c.in-Some.ensures.items ∙ ap (λ t. t ∷ reverse c.pop.new.self.items) c.in-Part.is)
    c.pop-in-Part.new.self.items c.in-Some-pop.piece c.in-Some-pop.ensures.items
    (tasks_of c.read.new.self) (known_of c.read.new.self)
    c.in_ok-read-in-Part.ensures.tasks c.in_ok-read-in-Part.ensures.known

pub loop-task-preserved-in_default-pop : goal.loop-task-preserved-in_default-pop
loop-task-preserved-in_default-pop c =
    skips c.args.pieces.items c.loop-task.left.items (tasks_of c.loop-task.reader) (reverse c.pop.new.self.items) (known_of c.loop-task.reader) c.loop-task.invariant
    c.in-Part.place
    (last-first c.loop-task.reader.tasks.items c.pop.new.self.items c.in-Some.task c.in-Some.ensures.items ∙ ap (λ t. t ∷ reverse c.pop.new.self.items) c.in-Part.is)
    c.pop-in-Part.new.self.items
    (nil_from_length c.loop-task.left.items (search rules)) (nil_from_length c.pop-in-Part.new.self.items (search rules))

pub loop-task-preserved-in-Continue-branch-3 : goal.loop-task-preserved-in-Continue-branch-3
loop-task-preserved-in-Continue-branch-3 c =
    leaves c.args.pieces.items c.loop-task.left.items (tasks_of c.loop-task.reader) (reverse c.pop.new.self.items) (known_of c.loop-task.reader) c.loop-task.invariant
    c.in-Leave.name c.in-Leave.outer (tasks_of c.leave.new.self) (known_of c.leave.new.self)
    (last-first c.loop-task.reader.tasks.items c.pop.new.self.items c.in-Some.task c.in-Some.ensures.items ∙ ap (λ t. t ∷ reverse c.pop.new.self.items) c.in-Leave.is)
    c.in_ok-leave-in-Leave.ensures.tasks c.in_ok-leave-in-Leave.ensures.known

pub loop-task-preserved : goal.loop-task-preserved
loop-task-preserved c =
    marks c.args.pieces.items c.loop-task.left.items (tasks_of c.loop-task.reader) (reverse c.pop.new.self.items) (known_of c.loop-task.reader) c.loop-task.invariant
    c.in-Note.fault
    (last-first c.loop-task.reader.tasks.items c.pop.new.self.items c.in-Some.task c.in-Some.ensures.items ∙ ap (λ t. t ∷ reverse c.pop.new.self.items) c.in-Note.is)

pub returns-in-Some-fault-clause-fault : goal.returns-in-Some-fault-clause-fault
returns-in-Some-fault-clause-fault c = λ other.
    gives-fault c.args.pieces.items c.loop-task.left.items (tasks_of c.loop-task.reader) (known_of c.loop-task.reader) c.loop-task.invariant
    (ap reverse (nil_from_length c.loop-task.reader.tasks.items (search rules)))
    c.in-Some-fault.fault c.in-Some-fault.is

pub returns-clause-items : goal.returns-clause-items
returns-clause-items c =
    gives-items c.args.pieces.items c.loop-task.left.items (tasks_of c.loop-task.reader) (known_of c.loop-task.reader) c.loop-task.invariant
    (ap reverse (nil_from_length c.loop-task.reader.tasks.items (search rules)))
    c.in-None.is
