-- `read_task` meets its contract.
use Rattle.std.proofs.Common.{◌≡◌, ◌+◌, rules, arith}
use Rattle.state.specs.Reading.{status_of, number_at, task_in}
use Rattle.state.proofs.Rooms.{task-room}
use Rattle.state.proofs.reader.read_task.Goals as goal

pub unwrap-requires : goal.unwrap-requires
unwrap-requires c = let h = (task-room _ _ c.requires.1).status in let e = rw h at c.status_in.ensures in rw e (search rules)

pub overflow_cast-result : goal.overflow_cast-result
overflow_cast-result c = omega (arith, (task-room _ _ c.requires.1).pc, c.read_u64-2.ensures.equal)

pub overflow_cast-result-2 : goal.overflow_cast-result-2
overflow_cast-result-2 c = omega (arith, (task-room _ _ c.requires.1).counter, c.read_u64-3.ensures.equal)

pub overflow_cast-result-3 : goal.overflow_cast-result-3
overflow_cast-result-3 c = omega (arith, (task-room _ _ c.requires.1).span, c.read_u64-4.ensures.equal)

pub overflow_cast-result-4 : goal.overflow_cast-result-4
overflow_cast-result-4 c = omega (arith, (task-room _ _ c.requires.1).depth, c.read_u64-5.ensures.equal)

pub overflow_cast-result-5 : goal.overflow_cast-result-5
overflow_cast-result-5 c = omega (arith, (task-room _ _ c.requires.1).height, c.read_u64-6.ensures.equal)

pub read_forks-requires : goal.read_forks-requires
read_forks-requires c = (omega (arith, c.requires.0), (task-room _ _ c.requires.1).forks)

pub returns : goal.returns
unfolding task_in
returns c =
    let h = (task-room _ _ c.requires.1).status in
    let read = rw h at c.status_in.ensures in
    let status : c.unwrap.result ≡ status_of (number_at c.args.bytes.now c.args.at) (number_at c.args.bytes.now (c.args.at + 8)) = cc (read, c.unwrap.ensures) in
    rw (
      status,
      c.read_u64.ensures.equal,
      c.read_u64-2.ensures.equal,
      c.read_u64-3.ensures.equal,
      c.read_u64-4.ensures.equal,
      c.read_u64-5.ensures.equal,
      c.read_u64-6.ensures.equal,
      c.read_forks.ensures,
    )
