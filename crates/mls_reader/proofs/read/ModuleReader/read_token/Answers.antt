use Rattle.std.proofs.Common.{rules}
use Rattle.std.proofs.lemmas.List.{nil_from_length}
use Rattle.mls_reader.specs.steps.Todos.{todo_of}
use Rattle.mls_reader.specs.steps.PieceReaders.{Refused, Stopped}
use Rattle.mls_reader.proofs.ReaderLoops.{refused-stopped, fault-passed, all-over}
use Rattle.mls_reader.proofs.read.ModuleReader.read_token.Goals as goal

pub returns-in_err-read_todo-clause-stopped : goal.returns-in_err-read_todo-clause-stopped
returns-in_err-read_todo-clause-stopped c =
    fault-passed c.from_residual.result _ (Refused c.args.text.now c.args.token (todo_of c.in-Some.todo)) (Stopped c.args.text.now c.args.token c.args.self.now) c.from_residual.ensures.1
    (refused-stopped c.args.text.now c.args.token c.args.self.now c.loop-todo.self (record c.loop-todo.self { stack = c.pop.new.self }) c.in-Some.todo c.loop-todo.invariant c.in-Some.ensures.items)
    c.in_err-read_todo.ensures.refused

pub returns-clause-stopped : goal.returns-clause-stopped
returns-clause-stopped c = λ other. all-over c.args.text.now c.args.token c.args.self.now c.loop-todo.self c.loop-todo.invariant (nil_from_length c.loop-todo.self.stack.items (search rules))
