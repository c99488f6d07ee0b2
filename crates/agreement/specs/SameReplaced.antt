-- "RUNS FROM ONE TERM WITH THE SAME TOTAL STEPS, however many orders they are spread over, have the same total of filled places"
-- (02 C-13).
use Rattle.std.specs.Prelude.{◌≡◌, List}
use Rattle.record.specs.declared.Header.{Header}
use Rattle.record.specs.Header.{ok_of}
use Rattle.record.specs.Holding.{TermIn}
use Rattle.rules.specs.FreeVariables.{no_vars}
use Rattle.rules.specs.Replaced.{ReductionsReplacing}
use Rattle.rules.specs.Syntax.{Term}
use Rattle.agreement.specs.Orders.{Order, World, play, reduces}

-- Before the first order: the reducer's buffer, any buffer of any length, begins with the record of the closed term t, and the
-- reducer's two totals are 0.
pub record StartsFrom (h : Header) (t : Term) (w : World) : Type 0 where
  pub holds : TermIn no_vars h t (w reduces).memory.buf (w reduces).memory.used
  pub no_steps : (w reduces).total ≡ 0
  pub none_replaced : (w reduces).memory.replaced ≡ 0

-- After every list, of any used lengths and budgets, refused orders and orders to either stepper among them: the total of variables
-- replaced is the number counted from the reduction rules, over as many reductions as the total of steps says.
unfoldable pub ReplacedByRules : Type 0
ReplacedByRules = (h : Header) (t : Term) (w : World) → StartsFrom h t w → (os : List Order)
    → (u : Term) × ReductionsReplacing (ok_of h) t (play w os reduces).total (play w os reduces).memory.replaced u
    × TermIn no_vars h u (play w os reduces).memory.buf (play w os reduces).memory.used

-- Two such lists from one closed term, in any two buffers and under any two headers: where their totals of steps are equal, so are
-- their totals of variables replaced.
unfoldable pub SameReplaced : Type 0
SameReplaced = (h g : Header) (t : Term) (w v : World) → StartsFrom h t w → StartsFrom g t v → (os ps : List Order)
    → (play w os reduces).total ≡ (play v ps reduces).total → (play w os reduces).memory.replaced ≡ (play v ps reduces).memory.replaced
