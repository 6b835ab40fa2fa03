-- `is_laid_out` meets its contract.
use Rattle.image.specs.Limits.{blocks_by}
use Rattle.image.proofs.questions.is_laid_out.Goals as goal
use mathlib.Core.Path.{sym}
use native.Mathlib.Omega.{arith}
use Rattle.image.proofs.Limiting.{past-opcodes, beyond-r, beyond-s, below-kind, beyond-kind, operand-decides, kind_known}

pub returns-then-bounds-x : goal.returns-then-bounds-x
returns-then-bounds-x c = sym (past-opcodes c.args.bounds.now.opcodes (blocks_by c.args.bounds.now.largest) c.args.x c.if-bounds-x.true)

pub returns-then-limits-x : goal.returns-then-limits-x
returns-then-limits-x c =
    let largest = c.args.bounds.now.largest in
    let row = c.limits_of-limits in
    sym (beyond-r c.args.bounds.now.opcodes (blocks_by largest) largest c.requires c.args.x c.if-bounds-x.false row.result row.ensures c.if-limits-x.true)

pub returns-then-limits-x-2 : goal.returns-then-limits-x-2
returns-then-limits-x-2 c =
    let largest = c.args.bounds.now.largest in
    let row = c.limits_of-limits in
    sym (beyond-s c.args.bounds.now.opcodes (blocks_by largest) largest c.requires c.args.x c.if-bounds-x.false row.result row.ensures c.if-limits-x.false c.if-limits-x-2.true)

pub returns-then-x-limits : goal.returns-then-x-limits
returns-then-x-limits c =
    let largest = c.args.bounds.now.largest in
    let row = c.limits_of-limits in
    sym (below-kind c.args.bounds.now.opcodes (blocks_by largest) largest c.requires c.args.x c.if-bounds-x.false row.result row.ensures c.if-limits-x.false c.if-limits-x-2.false c.if-x-limits.true)

pub returns-then-limits-x-3 : goal.returns-then-limits-x-3
returns-then-limits-x-3 c =
    let largest = c.args.bounds.now.largest in
    let row = c.limits_of-limits in
    sym (beyond-kind c.args.bounds.now.opcodes (blocks_by largest) largest c.requires c.args.x c.if-bounds-x.false row.result row.ensures c.if-limits-x.false c.if-limits-x-2.false c.if-limits-x-3.true)

pub offset_bounds-bounds-x : goal.offset_bounds-bounds-x
offset_bounds-bounds-x c =
    let largest = c.args.bounds.now.largest in
    let row = c.limits_of-limits in
    omega (arith, kind_known c.args.bounds.now.opcodes (blocks_by largest) largest c.requires c.args.x c.if-bounds-x.false row.result row.ensures c.if-limits-x-3.false)

pub bounds-bounds-x : goal.bounds-bounds-x
bounds-bounds-x c =
    let largest = c.args.bounds.now.largest in
    let row = c.limits_of-limits in
    kind_known c.args.bounds.now.opcodes (blocks_by largest) largest c.requires c.args.x c.if-bounds-x.false row.result row.ensures c.if-limits-x-3.false

pub returns : goal.returns
returns c =
    let largest = c.args.bounds.now.largest in
    let row = c.limits_of-limits in
    sym (operand-decides c.args.bounds.now.opcodes (blocks_by largest) largest c.requires c.args.x c.if-bounds-x.false row.result row.ensures
    c.if-limits-x.false c.if-limits-x-2.false c.if-x-limits.false c.if-limits-x-3.false (omega arith))
