-- Words ask for at most one job.
use Rattle.std.proofs.Common.{◌≡◌, ℕ, List, ◌∷◌, Option, Some, None, refl, ap, sym, subst, ◌∙◌, codes, cond}
use Rattle.std.specs.Str.{bytes_eq}
use Rattle.pel_model.specs.declared.Format.{Format}
use Rattle.pel_model.specs.declared.Format.TheVariants.{Qcif, Cif}
use Rattle.command_words.specs.declared.help.Command.{Command}
use Rattle.command_words.specs.declared.help.Command.TheVariants as command
use Rattle.command_words.specs.declared.job.Job.{Job}
use Rattle.command_words.specs.declared.job.Job.TheVariants.{Replay, History, Check, Decode, Make, Live}
use Rattle.command_words.specs.declared.job.PacketOptions.{PacketOptions}
use Rattle.command_words.specs.declared.job.FormatOptions.{FormatOptions}
use Rattle.command_words.specs.declared.job.MakeOptions.{MakeOptions}
use Rattle.command_words.specs.declared.job.LiveOptions.{LiveOptions}
use Rattle.command_words.specs.Options.{Text, Number, number_given}
use Rattle.command_words.specs.Asks.{mtu, ssrc, seq, stamp, seed, ticks, lanes, turns, Asks, OneJob, IsCommand, IsFormat, HasPackets, HasMake, HasLive, format_name}
use Rattle.command_words.specs.Answers.{name_of_command, option_names, command_of, OptionsOf, options_of, HasOptions}

one_number : (words : List Text) (o : Number) (m n : ℕ) → number_given words o ≡ Some m → number_given words o ≡ Some n → m ≡ n
one_number words o m n p q = let e : Some m ≡ Some n = sym p ∙ q in cc

packets_of : ℕ → ℕ → ℕ → ℕ → PacketOptions
packets_of a b c d = record { mtu = a; ssrc = b; seq = c; stamp = d }

same_packets : (a b : PacketOptions) → a.mtu ≡ b.mtu → a.ssrc ≡ b.ssrc → a.seq ≡ b.seq → a.stamp ≡ b.stamp → a ≡ b
unfolding packets_of
same_packets a b m r q t =
    ap (λ x. packets_of x a.ssrc a.seq a.stamp) m ∙ (ap (λ x. packets_of b.mtu x a.seq a.stamp) r
    ∙ (ap (λ x. packets_of b.mtu b.ssrc x a.stamp) q ∙ ap (λ x. packets_of b.mtu b.ssrc b.seq x) t))

one_packets : (words : List Text) (a b : PacketOptions) → HasPackets words a → HasPackets words b → a ≡ b
one_packets words a b p q =
    same_packets a b (one_number words mtu a.mtu b.mtu p.mtu q.mtu) (one_number words ssrc a.ssrc b.ssrc p.ssrc q.ssrc)
    (one_number words seq a.seq b.seq p.seq q.seq) (one_number words stamp a.stamp b.stamp p.stamp q.stamp)

make_of : ℕ → ℕ → ℕ → MakeOptions
make_of a b c = record { seed = a; ticks = b; lanes = c }

same_make : (a b : MakeOptions) → a.seed ≡ b.seed → a.ticks ≡ b.ticks → a.lanes ≡ b.lanes → a ≡ b
unfolding make_of
same_make a b m r q =
    ap (λ x. make_of x a.ticks a.lanes) m ∙ (ap (λ x. make_of b.seed x a.lanes) r ∙ ap (λ x. make_of b.seed b.ticks x) q)

one_make : (words : List Text) (a b : MakeOptions) → HasMake words a → HasMake words b → a ≡ b
one_make words a b p q =
    same_make a b (one_number words seed a.seed b.seed p.seed q.seed) (one_number words ticks a.ticks b.ticks p.ticks q.ticks)
    (one_number words lanes a.lanes b.lanes p.lanes q.lanes)

live_of : List Text → Text → PacketOptions → ℕ → LiveOptions
live_of a b c d = record { lanes = a; chair = b; packets = c; turns = d }

same_live : (a b : LiveOptions) → a.lanes ≡ b.lanes → a.chair ≡ b.chair → a.packets ≡ b.packets → a.turns ≡ b.turns → a ≡ b
unfolding live_of
same_live a b m r q t =
    ap (λ x. live_of x a.chair a.packets a.turns) m ∙ (ap (λ x. live_of b.lanes x a.packets a.turns) r
    ∙ (ap (λ x. live_of b.lanes b.chair x a.turns) q ∙ ap (λ x. live_of b.lanes b.chair b.packets x) t))

one_thing : {X : Type 0} (o : Option X) (a b : X) → o ≡ Some a → o ≡ Some b → a ≡ b
one_thing o a b p q = let e : Some a ≡ Some b = sym p ∙ q in cc

one_live : (words : List Text) (a b : LiveOptions) → HasLive words a → HasLive words b → a ≡ b
one_live words a b p q =
    same_live a b (one_thing _ a.lanes b.lanes p.lanes q.lanes) (one_thing _ a.chair b.chair p.chair q.chair)
    (one_packets words a.packets b.packets p.packets q.packets) (one_number words turns a.turns b.turns p.turns q.turns)

pub one_name : (f g : Format) → format_name f ≡ format_name g → f ≡ g
one_name Qcif Qcif e = refl
one_name Qcif Cif e = cc
one_name Cif Qcif e = cc
one_name Cif Cif e = refl

one_format : (otherwise : Format) (o : Option Text) (f g : Format) → IsFormat otherwise o f → IsFormat otherwise o g → f ≡ g
one_format otherwise None f g p q = p ∙ sym q
one_format otherwise (Some t) f g p q = one_name f g (sym p ∙ q)

format_of : Format → FormatOptions
format_of f = record { format = f }

one_format_option : (words : List Text) (otherwise : Format) (o : Option Text) (a b : FormatOptions) → IsFormat otherwise o a.format → IsFormat otherwise o b.format → a ≡ b
unfolding format_of
one_format_option words otherwise o a b p q = ap format_of (one_format otherwise o a.format b.format p q)

-- the command that has the name
named : Text → Option Command
named name =
    cond (bytes_eq name (codes "replay")) (Some command.Replay)
    (cond (bytes_eq name (codes "history")) (Some command.History)
    (cond (bytes_eq name (codes "check")) (Some command.Check)
    (cond (bytes_eq name (codes "decode")) (Some command.Decode)
    (cond (bytes_eq name (codes "make")) (Some command.Make)
    (cond (bytes_eq name (codes "live")) (Some command.Live) None)))))

named_back : (c : Command) → named (name_of_command c) ≡ Some c
unfolding named
named_back command.Replay = refl
named_back command.History = refl
named_back command.Check = refl
named_back command.Decode = refl
named_back command.Make = refl
named_back command.Live = refl

pub same_command : (c d : Command) → name_of_command c ≡ name_of_command d → c ≡ d
same_command c d e = let same : Some c ≡ Some d = sym (named_back c) ∙ (ap named e ∙ named_back d) in cc

-- the words are the command and options of a job
pub record Splits (words : List Text) (job : Job) : Type 0 where
  pub rest : List Text
  pub is : IsCommand words (name_of_command (command_of job)) (option_names (command_of job)) rest
  pub has : HasOptions (command_of job) rest (options_of job)

pub splits : (words : List Text) (job : Job) → Asks words job → Splits words job
splits words (Replay o) a = record { rest = a.0; is = a.1; has = a.2 }
splits words History a = record { rest = a.0; is = a.1; has = tt }
splits words (Check o) a = record { rest = a.0; is = a.1; has = a.2 }
splits words (Decode o) a = record { rest = a.0; is = a.1; has = a.2 }
splits words (Make o) a = record { rest = a.0; is = a.1; has = a.2 }
splits words (Live o) a = record { rest = a.0; is = a.1; has = a.2 }

pub joins : (words : List Text) (job : Job) → Splits words job → Asks words job
joins words (Replay o) s = (s.rest, s.is, s.has)
joins words History s = (s.rest, s.is)
joins words (Check o) s = (s.rest, s.is, s.has)
joins words (Decode o) s = (s.rest, s.is, s.has)
joins words (Make o) s = (s.rest, s.is, s.has)
joins words (Live o) s = (s.rest, s.is, s.has)

one_options : (c : Command) (words : List Text) (a b : OptionsOf c) → HasOptions c words a → HasOptions c words b → a ≡ b
one_options command.Replay words a b p q = one_packets words a b p q
one_options command.History words a b p q = refl
one_options command.Check words a b p q = one_format_option words Qcif _ a b p q
one_options command.Decode words a b p q = one_format_option words Cif _ a b p q
one_options command.Make words a b p q = one_make words a b p q
one_options command.Live words a b p q = one_live words a b p q

job_of : (c : Command) → OptionsOf c → Job
job_of command.Replay o = Replay o
job_of command.History o = History
job_of command.Check o = Check o
job_of command.Decode o = Decode o
job_of command.Make o = Make o
job_of command.Live o = Live o

job_back : (job : Job) → job_of (command_of job) (options_of job) ≡ job
unfolding job_of
job_back (Replay o) = refl
job_back History = refl
job_back (Check o) = refl
job_back (Decode o) = refl
job_back (Make o) = refl
job_back (Live o) = refl

-- options of one command that the same words have make one job
one_made : (words : List Text) (c d : Command) (a : OptionsOf c) (b : OptionsOf d) → c ≡ d → HasOptions c words a → HasOptions d words b
    → job_of c a ≡ job_of d b
one_made words c d a b same p q =
    subst (λ k. (o : OptionsOf k) → HasOptions k words o → job_of c a ≡ job_of k o) same (λ o h. ap (job_of c) (one_options c words a o p h)) b q

pub first_text : (c d : Text) (xs ys : List Text) → (c ∷ xs) ≡ (d ∷ ys) → c ≡ d
first_text c d xs ys e = cc

pub rest_texts : (c d : Text) (xs ys : List Text) → (c ∷ xs) ≡ (d ∷ ys) → xs ≡ ys
rest_texts c d xs ys e = cc

pub one_job : OneJob
one_job words i j p q =
    let a = splits words i p in
    let b = splits words j q in
    let whole = sym a.is.whole ∙ b.is.whole in
    let same = same_command (command_of i) (command_of j) (first_text _ _ _ _ whole) in
    let has = subst (λ l. HasOptions (command_of i) l (options_of i)) (rest_texts _ _ _ _ whole) a.has in
    sym (job_back i) ∙ (one_made b.rest (command_of i) (command_of j) (options_of i) (options_of j) same has b.has ∙ job_back j)
