-- Document 01's starred cases (* below), two more that its wrong turns need, and document 02's: one table, and one statement about all of
-- it. `proofs/Starred.antt` proves the statement.
use mathlib.Core.List.{List, [], ◌∷◌, ◌++◌, Memᴰ}
use Rattle.std.specs.Prelude.{ℕ, zero, suc, ◌+◌, ◌-◌, ◌^◌, ℤ, pos, neg_ℤ, length, replicate}
use Rattle.image.specs.declared.Instruction.{Instruction}
use Rattle.task.specs.declared.Value.TheVariants.{Int, Label, Record}
use Rattle.drive.specs.declared.End.TheVariants.{Halt, Fault}
use Rattle.cases.specs.Assembly.{block, none, int, plus, divide, modulo, less, halt, assembled}
use Rattle.cases.specs.ProgramF.{image_f, two_faults, halt_in_side}
use Rattle.cases.specs.Figure2.{product, c}
use Rattle.cases.specs.Calls.{calling, pop_in_sides, pushing}
use Rattle.cases.specs.Cases.{Given, Held, held, Case, Right}

-- start registers: these, and 0 in the others
abbrev pub then_zeros : List ℤ → List ℤ
then_zeros zs = zs ++ replicate (16 - length zs) (pos 0)

-- at the end: integers 0 in n registers from r on
abbrev pub zeros_from : ℕ → ℕ → List Held
zeros_from zero r = []
zeros_from (suc n) r = held r (Int (pos 0)) ∷ zeros_from n (r + 1)

-- ---- F

-- interval 0, r0 4, other registers 0, no words
abbrev pub for_f : List ℕ → ℕ → Given
for_f image places = record { image = image; places = places; interval = 0; registers = then_zeros (pos 4 ∷ []); words = [] }

-- *F as above
unfoldable pub case_f : Case
case_f = record {
  given = for_f image_f 2;
  orders = [];
  outcome = record {
    end = Halt;
    work = 9;
    span = 7;
    registers = held 0 (Int (pos 12)) ∷ held 1 (Record 2 0) ∷ held 2 (Int (pos 7)) ∷ zeros_from 13 3;
  };
}

-- *F with P 1
unfoldable pub one_place : Case
one_place = record {
  given = for_f image_f 1;
  orders = [];
  outcome = record { end = Fault 37; work = 2; span = 2; registers = zeros_from 16 0 };
}

-- *F with the parent's sum replaced by word 0 of an empty record and the child's move by a division by 0, in either order: the parent's
-- side faults first, or the child's
unfoldable pub either_fault : Case
either_fault = record {
  given = for_f (assembled 1 two_faults) 2;
  orders = (0 ∷ 0 ∷ 0 ∷ 1 ∷ []) ∷ (0 ∷ 0 ∷ 1 ∷ 0 ∷ []) ∷ [];
  outcome = record { end = Fault 33; work = 4; span = 3; registers = zeros_from 16 0 };
}

-- a side that halts
unfoldable pub side_halts : Case
side_halts = record {
  given = for_f (assembled 1 halt_in_side) 2;
  orders = [];
  outcome = record { end = Fault 38; work = 5; span = 4; registers = zeros_from 16 0 };
}

-- ---- 002's Figure 2, parallel form, b 5. (P 2 with interval 0 too: it is the interval that keeps that one from promoting)

abbrev pub for_product : ℕ → ℕ → Given
for_product interval a = record {
  image = assembled 1 product;
  places = 2;
  interval = interval;
  registers = then_zeros (pos a ∷ pos 5 ∷ []);
  words = [];
}

-- *interval 0, a 2
unfoldable pub product2 : Case
product2 = record {
  given = for_product 0 2;
  orders = [];
  outcome = record { end = Halt; work = 13; span = 13; registers = held c (Int (pos 10)) ∷ [] };
}

-- interval 8, P 2, a 3: the handler finds nothing to split, and goes back to the loop
unfoldable pub product3 : Case
product3 = record {
  given = for_product 8 3;
  orders = [];
  outcome = record { end = Halt; work = 19; span = 19; registers = held c (Int (pos 15)) ∷ [] };
}

-- *a 4
unfoldable pub product4 : Case
product4 = record {
  given = for_product 8 4;
  orders = [];
  outcome = record { end = Halt; work = 39; span = 33; registers = held c (Int (pos 20)) ∷ [] };
}

-- document 02, request 1: the counter stands at 10 when the loop is entered with 2 left, and at 14 with 1 left. Interval 10 forks
unfoldable pub on_interval : Case
on_interval = record {
  given = for_product 10 4;
  orders = [];
  outcome = record { end = Halt; work = 39; span = 33; registers = held c (Int (pos 20)) ∷ [] };
}

-- with interval 11 the beat comes too late for a fork: the handler's two instructions, and back
unfoldable pub below_interval : Case
below_interval = record {
  given = for_product 11 4;
  orders = [];
  outcome = record { end = Halt; work = 23; span = 23; registers = held c (Int (pos 20)) ∷ [] };
}

-- ---- Operations: two instructions on r0, whose results go to r1 and r2, which were 9

abbrev pub on : ℤ → Instruction → Instruction → Given
on z first second = record {
  image = assembled 1 (block none (first ∷ second ∷ halt ∷ []) ∷ []);
  places = 1;
  interval = 0;
  registers = then_zeros (z ∷ pos 9 ∷ pos 9 ∷ []);
  words = [];
}

abbrev pub gives : Given → ℤ → ℤ → Case
gives g x y = record {
  given = g;
  orders = [];
  outcome = record { end = Halt; work = 3; span = 3; registers = held 1 (Int x) ∷ held 2 (Int y) ∷ [] };
}

abbrev pub neg : ℕ → ℤ
neg n = neg_ℤ (pos n)

abbrev pub least : ℤ
least = neg (2 ^ 63)

abbrev pub greatest : ℤ
greatest = pos (2 ^ 63 - 1)

-- *-7 / 2 is -3, remainder -1
unfoldable pub toward_zero : Case
toward_zero = gives (on (neg 7) (divide 1 0 (int (pos 2))) (modulo 2 0 (int (pos 2)))) (neg 3) (neg 1)

-- *the least integer divided by -1 gives itself, remainder 0
unfoldable pub least_negated : Case
least_negated = gives (on least (divide 1 0 (int (neg 1))) (modulo 2 0 (int (neg 1)))) least (pos 0)

-- *1 < 2 is 0; and 1 < 1 is 1
unfoldable pub true_is_zero : Case
true_is_zero = gives (on (pos 1) (less 1 0 (int (pos 2))) (less 2 0 (int (pos 1)))) (pos 0) (pos 1)

-- *greatest + 1 is least; and greatest + 0 is itself
unfoldable pub sum_wraps : Case
sum_wraps = gives (on greatest (plus 1 0 (int (pos 1))) (plus 2 0 (int (pos 0)))) least greatest

-- ---- Document 02, request 4: stacks. Version 2, the start of F

-- a call and return, twice: 3 instructions in block 0, 3 in block 3, 2 in block 1, 3 in block 3 again, 2 in block 2. r0 is 4, 8, then 16;
-- r1 has the last label come back to, and r2 the 4 that was pushed first
unfoldable pub call_returns : Case
call_returns = record {
  given = for_f (assembled 2 calling) 1;
  orders = [];
  outcome = record {
    end = Halt;
    work = 13;
    span = 13;
    registers = held 0 (Int (pos 16)) ∷ held 1 (Label 2) ∷ held 2 (Int (pos 4)) ∷ zeros_from 13 3;
  };
}

-- a child's empty stack: 3 instructions up to the fork, the parent's pop and join, the child's pop, in which it faults. (The span is the
-- parent's, 5; had its pop faulted too, the work would be 5.) The child's side ends last, or the parent's
unfoldable pub child_pops : Case
child_pops = record {
  given = for_f (assembled 2 pop_in_sides) 2;
  orders = (0 ∷ 0 ∷ 0 ∷ 0 ∷ 0 ∷ 1 ∷ []) ∷ (0 ∷ 0 ∷ 0 ∷ 1 ∷ 0 ∷ 0 ∷ []) ∷ [];
  outcome = record { end = Fault 43; work = 6; span = 5; registers = zeros_from 16 0 };
}

-- 33 pushes: the stack has 32 values when the 33rd faults, before halt
unfoldable pub one_push_more : Case
one_push_more = record {
  given = for_f (assembled 2 (pushing 33)) 1;
  orders = [];
  outcome = record { end = Fault 42; work = 33; span = 33; registers = zeros_from 16 0 };
}

-- ---- All of them

unfoldable pub table : List Case
table =
    case_f ∷ one_place ∷ either_fault ∷ side_halts
    ∷ product2 ∷ product3 ∷ product4 ∷ on_interval ∷ below_interval
    ∷ toward_zero ∷ least_negated ∷ true_is_zero ∷ sum_wraps
    ∷ call_returns ∷ child_pops ∷ one_push_more
    ∷ []

abbrev pub StarredCases : Type 0
StarredCases = (x : Case) → Memᴰ x table → Right x
