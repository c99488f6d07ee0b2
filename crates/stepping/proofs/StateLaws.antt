-- Laws of a configuration that stands in a buffer: the bytes of the command that the rules act on, and a step.
use Prim.Native.Nat.{ℕ, ◌*◌, ◌+◌, ◌-◌, ◌≤◌}
use mathlib.Core.Path.{◌≡◌, ◌∙◌, ap, subst, sym}
use mathlib.Core.List.{List, ◌++◌}
use lib.ListN.{drop, length, length-append, take}
use lib.Seq.{length-take-le}
use native.Mathlib.Omega.{arith}
use Rattle.buffer.specs.Slice.{zeros}
use Rattle.record.specs.Answers.{padded}
use Rattle.record.specs.declared.Header.{Header}
use Rattle.record.specs.Header.{encode_program, ok_of}
use Rattle.record.specs.Program.{block_size, encode_block}
use Rattle.rules.specs.Rules.{at}
use Rattle.rules.specs.Sound.{SoundConfig}
use Rattle.rules.specs.Step.{step}
use Rattle.rules.specs.Syntax.{Answer, Block, Config, next}
use Rattle.place.specs.Nesting.{around, rests}
use Rattle.place.specs.Path.{blocks, path, spot}
use Rattle.place.specs.Whole.{block_at, program_front}
use Rattle.record.proofs.PaddedLaws.{drop-padded, length-padded}
use Rattle.record.proofs.HeaderLaws.{ok-limit}
use Rattle.record.proofs.HoldingLaws.{padded-program, program-size}
use Rattle.record.proofs.ProgramLaws.{length-encode_block}
use Rattle.rules.proofs.IterateLaws.{OnNext}
use Rattle.rules.proofs.SoundConfigLaws.{sound-step}
use Rattle.place.proofs.PathLaws.{block_size-plug, plug-spot}
use Rattle.place.proofs.WholeLaws.{encode_program-plug, length-program_front, program-used}
use Rattle.stepping.specs.State.{Stands, config_bytes}

-- A STEP leaves a configuration that stands again, where it fits

stands-sound : {hd : Header} {c : Config} {buf : List ℕ} {used : ℕ} → Stands hd c buf used → SoundConfig (ok_of hd) hd.k c
stands-sound h = record { variables = record { block = h.holds.is_program.variables; size = h.count }; literals = h.holds.is_program.literals; values = h.values }

sound-after : (hd : Header) (c d : Config) → SoundConfig (ok_of hd) hd.k c → step (ok_of hd) c ≡ next d → SoundConfig (ok_of hd) hd.k d
sound-after hd c d h e = subst (λ (a : Answer Config). OnNext (SoundConfig (ok_of hd) hd.k) a) e (sound-step (ok_of hd) (ok-limit hd) hd.k c h)

pub stands_after : {hd : Header} {c : Config} {buf : List ℕ} {used : ℕ} (d : Config) → Stands hd c buf used → step (ok_of hd) c ≡ next d → length (config_bytes hd d) ≤ length buf
    → Stands hd d (padded (length buf) (config_bytes hd d)) (length (config_bytes hd d))
stands_after {hd} {c} {buf} d h e fits =
    let s = sound-after hd c d (stands-sound h) e in
    let n : length (padded (length buf) (config_bytes hd d)) ≡ length buf = length-padded (length buf) (config_bytes hd d) fits in
    record {
      holds = padded-program hd d.block (length buf) h.holds.header record { variables = s.variables.block; literals = s.literals };
      short = omega (arith, h.short);
      clear = ap (λ (m : ℕ). padded m (config_bytes hd d)) (sym n);
      count = s.variables.size;
      values = s.values;
    }

-- THE COMMAND THAT THE RULES ACT ON, in its bytes

module _ {hd : Header} {P : Block} {s : List ℕ} {l : List ℕ} {used : ℕ} (h : Stands hd (at P s) l used) where
  pub spot-bytes : take used l ≡ program_front hd (path P) (block_size (spot P)) ++ (encode_block (spot P) ++ rests blocks (path P))
  spot-bytes = h.holds.bytes ∙ ap (encode_program hd) (sym (plug-spot P)) ∙ encode_program-plug hd (path P) (spot P)

  -- the record's length, from the command's block
  pub spot-used : block_at hd + (block_size (spot P) + around blocks (path P)) ≡ used
  spot-used = ap (λ (n : ℕ). block_at hd + n) (sym (block_size-plug (path P) (spot P)) ∙ ap block_size (plug-spot P)) ∙ program-used h.holds

  pub spot-room : block_at hd + 4 * length (path P) + block_size (spot P) ≤ used
  spot-room =
      let a : List ℕ = program_front hd (path P) (block_size (spot P)) in
      let b : List ℕ = encode_block (spot P) in
      let e : used ≡ length a + (length b + length (rests blocks (path P))) =
      sym (length-take-le used l h.holds.within) ∙ ap length spot-bytes ∙ rw (length-append a (b ++ rests blocks (path P)), length-append b (rests blocks (path P))) in
      omega (arith, length-program_front hd (path P) (block_size (spot P)), length-encode_block (spot P))

  -- zeros behind it
  pub zeros-behind : (n : ℕ) → used ≤ n → drop n l ≡ zeros (length l - n)
  zeros-behind n u = ap (drop n) h.clear ∙ drop-padded (length l) n (encode_program hd P) (omega (arith, program-size h.holds))
