-- Going back to 01's stepper, proved: in the world gone back to, every engine stands as its total says.
use Prim.Native.Nat.{ℕ, ◌≤◌}
use mathlib.Core.Path.{refl, subst, sym, ◌≡◌}
use mathlib.Core.List.{List}
use lib.ListN.{length, take}
use native.Mathlib.Omega.{arith}
use Rattle.counting.specs.Counting.{Counting, State, expand, expand_config}
use Rattle.counting.specs.CountingMeaning.{Passes}
use Rattle.counting.specs.CountingRan.{WroteExpansion}
use Rattle.counting.proofs.ExpandCallLaws.{expand-takes, expand-ten, expand-writes, expand-wrote}
use Rattle.record.specs.Answers.{Wrote}
use Rattle.record.specs.declared.Header.{Header}
use Rattle.record.specs.Header.{encode_program, ok_of}
use Rattle.record.specs.Holding.{ProgramIn}
use Rattle.rules.specs.Sound.{SoundConfig}
use Rattle.rules.specs.Syntax.{Block}
use Rattle.agreement.specs.Demand3.{start_world}
use Rattle.agreement.specs.GoingBack.{GoesOn, GoingBack, WritesOut, WritingOut, went_back, written_out}
use Rattle.agreement.specs.Orders.{Engine, World, change, counted, play, recorded, reduces, steps}
use Rattle.agreement.proofs.Demand3Laws.{accepted-program, agrees, config, config-reached, first, lent-own, list-stands, refuses}
use Rattle.agreement.proofs.Play.{StandsFrom, accepts, begins, stands}
use Rattle.agreement.proofs.TogetherLaws.{stop-together}

-- what was written fits
wrote-fits : {hd : Header} {s : State} {out : List ℕ} {r : Wrote} → WroteExpansion hd s out r → length (encode_program hd (expand s)) ≤ length out
wrote-fits h = omega (arith, h.used, h.room, h.program.within)

module _ (hd : Header) (P : Block) (μ : List ℕ) {cb : List ℕ} {cu : ℕ} (given : ProgramIn hd P cb cu) (sound : SoundConfig (ok_of hd) hd.k (record { block = P; store = μ })) where
  -- WHAT IS SO WHERE ALL STAND

  writes-out : (w : World) → ((e : Engine) → StandsFrom hd P μ given e w) → WritesOut hd P w
  writes-out w stand =
      let s = (stand (steps counted)).state.state in
      record {
        Q = expand s;
        holds = (s, (stand (steps counted)).holds.state, refl);
        accepts = λ buf out e low deep lo.
            let a = lent-own hd P μ given sound w stand buf e low deep in
            ((λ z. wrote-fits (expand-wrote a out z)), (λ f. (expand-writes a out lo f).number));
        ten = λ buf out e low deep lo. expand-ten (lent-own hd P μ given sound w stand buf e low deep) out lo;
      }

  goes-on : (w : World) → ((e : Engine) → StandsFrom hd P μ given e w) → GoesOn hd P μ w
  unfolding config
  goes-on w stand =
      let here = stand (steps recorded) in
      record {
        no_step_lost = record {
          c = here.state;
          reached = config-reached hd P μ given sound w stand recorded;
          holds = here.holds.program;
          store = here.holds.store;
        };
        agrees = agrees hd P μ given sound w stand;
        refuses = refuses hd P μ given sound w stand;
        writes_out = writes-out w stand;
        together = stop-together hd P μ given sound w stand;
      }

  -- AFTER AN ACCEPTED WRITING OUT
  module _ (w : World) (stand : (e : Engine) → StandsFrom hd P μ given e w) (buf : List ℕ) (used : ℕ) (out : List ℕ)
      (begun : take (length (encode_program hd P)) buf ≡ encode_program hd P) (accepted : (written_out w buf used out).number ≡ 0) where
    -- what the counting stepper stands at
    abbrev c : Counting
    c = (stand (steps counted)).state

    lent : Passes hd P buf used (w (steps counted)).memory.words (w (steps counted)).memory.store c.state
    lent =
        accepts hd P given (w (steps counted)) c (stand (steps counted)).holds buf begun used
        (expand-takes (begins hd P given buf begun) used (w (steps counted)).memory.words (w (steps counted)).memory.store out accepted).0

    wrote : WroteExpansion hd c.state out (written_out w buf used out)
    wrote = expand-wrote lent out accepted

    back-stands : (e : Engine) → StandsFrom hd P μ given e (went_back w (written_out w buf used out))
    unfolding went_back change config expand_config
    back-stands (steps recorded) = record {
      state = expand_config c;
      reached = config-reached hd P μ given sound w stand counted;
      holds = record { program = wrote.program; store = (stand (steps counted)).holds.store; sound = (stand (steps counted)).holds.sound };
    }
    back-stands (steps counted) = record { state = c; reached = (stand (steps counted)).reached; holds = (stand (steps counted)).holds }
    back-stands reduces = record { state = (stand reduces).state; reached = (stand reduces).reached; holds = (stand reduces).holds }

-- THE THEOREMS

pub writing-out : WritingOut
unfolding WritingOut
writing-out hd P μ s os a = writes-out hd P μ (accepted-program hd P μ s) (first hd P μ s) (play (start_world hd P μ s) os) (list-stands hd P μ s os a)

pub going-back : GoingBack
unfolding GoingBack
going-back hd P μ s os a w e buf used out begun accepted ps b =
    let given = accepted-program hd P μ s in
    let sound = first hd P μ s in
    let stand : (f : Engine) → StandsFrom hd P μ given f w = λ f. subst (StandsFrom hd P μ given f) (sym e) (list-stands hd P μ s os a f) in
    let v : World = went_back w (written_out w buf used out) in
    goes-on hd P μ given sound (play v ps) (λ f. stands hd P μ given f ps v b (back-stands hd P μ given sound w stand buf used out begun accepted f))
