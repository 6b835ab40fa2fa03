-- `new` meets its contract.
use Rattle.job.specs.Job.{ends_exactly}
use Rattle.job.proofs.input.Input.new.Goals as goal
use borrow.Author.Tests.{le-leb, lt-leb, eq-eqb, ne_eqb}

pub returns-then-bytes-lt2-clause-value : goal.returns-then-bytes-lt2-clause-value
unfolding ends_exactly
returns-then-bytes-lt2-clause-value c = rw (lt-leb _ _ c.if-bytes-lt2.true)

pub returns-then-bytes-n-clause-value : goal.returns-then-bytes-n-clause-value
unfolding ends_exactly
returns-then-bytes-n-clause-value c = rw (le-leb _ _ c.if-bytes-lt2.false, ← c.read_u16-n.ensures.equal, lt-leb _ _ c.if-bytes-n.true)

pub returns-then-bytes-n-2-clause-value : goal.returns-then-bytes-n-2-clause-value
unfolding ends_exactly
returns-then-bytes-n-2-clause-value c =
    rw (
      le-leb _ _ c.if-bytes-lt2.false,
      ← c.read_u16-n.ensures.equal,
      le-leb _ _ c.if-bytes-n.false,
      ← c.read_u16-words.ensures.equal,
      ne_eqb _ _ c.if-bytes-n-2.true,
    )

pub invariant_of-result : goal.invariant_of-result
unfolding ends_exactly
invariant_of-result c = record {
  ends =
      rw (
        le-leb _ _ c.if-bytes-lt2.false,
        ← c.read_u16-n.ensures.equal,
        le-leb _ _ c.if-bytes-n.false,
        ← c.read_u16-words.ensures.equal,
        eq-eqb _ _ c.if-bytes-n-2.false,
      );
}
