-- What load replies: 31 where the file is above 7 or built, 43 where the text is no sheet, else 0.
use Prim.Native.Nat.{ℕ, ◌≤◌, ◌<◌}
use mathlib.Core.Path.{◌≡◌, refl, sym, ap, ◌∙◌}
use mathlib.Core.Bool.{Bool, true, false, true≢false}
use mathlib.Core.List.{List}
use mathlib.Core.Logic.{◌⊎◌, inl, inr}
use mathlib.Core.Option.{Option, none, some}
use native.Mathlib.Omega.{arith}
use native.Mathlib.Decide.{dec_lt}
use borrow.Author.Tests.{lt-ltb, le-ltb}
use Rattle.std.specs.Prelude as std
use Rattle.std.specs.Prelude.{◌≢◌, IfSome, unwrap_or}
use Rattle.rules.specs.Limits.{files}
use Rattle.rules.specs.State.{Built, File, unbuilt, built}
use Rattle.rules.specs.Reply.{leaves, unmade}
use Rattle.rules.specs.Sheet.{Sheet, read_sheet}
use Rattle.rules.specs.Sheet as sheets
use Rattle.rules.specs.Calls.{refusal, ask_built, ask_unbuilt, ask}
use Rattle.rules.specs.Calls as calls
use Rattle.rules.specs.Desk.{Desk, load, asked, file_of, answered, respond}
use Rattle.rules.specs.Allocation.{Alloc}
use Rattle.laws.specs.Bounds.{least_refusal}
use Rattle.memory.specs.Memories.{Memories}
use Rattle.memory.specs.Fine.{StandsFor}
use Rattle.sound.specs.Sound.{soundly}
use Rattle.midst.specs.Outcome.{reply_status}
use Rattle.accessors.specs.Accessors.{words_at}
use Rattle.accessors.proofs.Names.{is-built, not-built}
use Rattle.promises.specs.Promise.{Standing, Seen, reply_of}
use Rattle.promises.proofs.Seen.{seen_none, seen-some}
use Rattle.reader.specs.Sheets.{is_some}
use Rattle.reader.proofs.Sheets.{some_is}

-- the status that a desk gives
abbrev pub gives : Desk → ℕ → List ℕ → ℕ
gives d f t = reply_status (respond d (load f t)).reply

-- what load needs of a desk and a text
pub record Loads (d : Desk) (f : ℕ) (t : List ℕ) : Type 0 where
  pub file : f < files
  pub new : file_of d f ≡ unbuilt
  pub sheet : Sheet
  pub reads : read_sheet t ≡ some sheet

module _ (d : Desk) (f : ℕ) (t : List ℕ) where
  load-high : files ≤ f → gives d f t ≡ 31
  unfolding respond asked answered refusal reply_status
  load-high h = rw (le-ltb f files h, answered)

  load_low : f < files → gives d f t ≡ reply_status (ask (file_of d f) (calls.load t)).reply
  unfolding respond asked answered
  load_low h = rw (lt-ltb f files h, answered)

  load-built : f < files → (b : Built) → file_of d f ≡ built b → gives d f t ≡ 31
  unfolding ask ask_built leaves refusal reply_status
  load-built h b e = load_low h ∙ ap (λ (x : File). reply_status (ask x (calls.load t)).reply) e

  load-new : f < files → file_of d f ≡ unbuilt → gives d f t ≡ reply_status (sheets.load t).reply
  unfolding ask ask_unbuilt
  load-new h e = load_low h ∙ ap (λ (x : File). reply_status (ask x (calls.load t)).reply) e

  load-none : f < files → file_of d f ≡ unbuilt → read_sheet t ≡ none → gives d f t ≡ 43
  unfolding sheets.load unmade reply_status
  load-none h e n = load-new h e ∙ rw (n, sheets.load)

  load-some : f < files → file_of d f ≡ unbuilt → (s : Sheet) → read_sheet t ≡ some s → gives d f t ≡ 0
  unfolding sheets.load leaves reply_status
  load-some h e s n = load-new h e ∙ rw (n, sheets.load)

  pub load-case : ((gives d f t ≡ 0) × Loads d f t) ⊎ (least_refusal ≤ gives d f t)
  load-case = file (dec_lt f files)
    where
      text : f < files → file_of d f ≡ unbuilt → (o : Option Sheet) → read_sheet t ≡ o → ((gives d f t ≡ 0) × Loads d f t) ⊎ (least_refusal ≤ gives d f t)
      text h e none n = inr (omega (arith, load-none h e n))
      text h e (some s) n = inl (load-some h e s n, record { file = h; new = e; sheet = s; reads = n })

      stands : f < files → (x : File) → file_of d f ≡ x → ((gives d f t ≡ 0) × Loads d f t) ⊎ (least_refusal ≤ gives d f t)
      stands h unbuilt e = text h e (read_sheet t) refl
      stands h (built b) e = inr (omega (arith, load-built h b e))

      file : Dec (f < files) → ((gives d f t ≡ 0) × Loads d f t) ⊎ (least_refusal ≤ gives d f t)
      file (yes h) = stands h (file_of d f) refl
      file (no h) = inr (omega (arith, load-high (omega arith)))

-- the R of a file, 0 if it is not built
words_high : (o : std.Option ℕ) → IfSome o (λ w. w ≢ 0) → std.is_some o ≡ true → unwrap_or o 0 ≢ 0
words_high std.None k e = absurd (true≢false (sym e))
words_high (std.Some w) k e = k

words-zero : (o : std.Option ℕ) → std.is_some o ≡ false → unwrap_or o 0 ≡ 0
words-zero std.None e = refl
words-zero (std.Some w) e = absurd (true≢false e)

-- the refusal number is what the judge says, on each way out
module _ (m : Memories) (f : ℕ) (t : List ℕ) where
  abbrev pub Judges : ℕ → Type 0
  Judges r = (v : Option Standing) → Seen m v → r ≡ reply_status (reply_of v (load f t))

  pub judges-unsound : soundly m ≡ false → Judges 29
  unfolding reply_of reply_status
  judges-unsound e = seen_none (λ v. 29 ≡ reply_status (reply_of v (load f t))) e refl

  module _ (sound : soundly m ≡ true) where
    each : (r : ℕ) → ((d : Desk) (s : Alloc) → StandsFor m d s → gives d f t ≡ r) → Judges r
    unfolding reply_of
    each r h = seen-some (λ v. r ≡ reply_status (reply_of v (load f t))) sound (λ d s S. sym (h d s S))

    pub judges-high : files ≤ f → Judges 31
    judges-high h = each 31 (λ d s S. load-high d f t h)

    module _ (low : f < files) (o : std.Option ℕ) (e : unwrap_or o 0 ≡ words_at m.segment f) (k : IfSome o (λ w. w ≢ 0)) where
      pub judges-built : std.is_some o ≡ true → Judges 31
      judges-built h = each 31 (λ d s S. let (b, i) = is-built S f (unwrap_or o 0) e (words_high o k h) in load-built d f t low b i)

      pub judges-text : std.is_some o ≡ false → (b : Bool) → b ≡ is_some (read_sheet t) → b ≡ false → Judges 43
      unfolding is_some
      judges-text h b i n = each 43 (λ d s S. load-none d f t low (not-built S f (unwrap_or o 0) e low (words-zero o h)) (go (read_sheet t) (sym i ∙ n)))
        where
          go : (o : Option Sheet) → is_some o ≡ false → o ≡ none
          go none k = refl
          go (some s) k = let y : ◌≡◌ {A = ℕ} 0 1 = cc in absurd (omega arith)

      pub judges-done : std.is_some o ≡ false → (b : Bool) → b ≡ is_some (read_sheet t) → b ≡ true → Judges 0
      judges-done h b i n = let (s, j) = some_is (read_sheet t) (sym i ∙ n) in each 0 (λ d u S. load-some d f t low (not-built S f (unwrap_or o 0) e low (words-zero o h)) s j)
