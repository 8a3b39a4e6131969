-- Worked values of the rule for words: each guards a part of the definitions, and is computed at each check.
use Rattle.std.proofs.Common.{◌≡◌, ℕ, List, [], ◌∷◌, Option, Some, None, Bool, true, false, refl, codes}
use Rattle.pel_model.specs.declared.Format.TheVariants.{Qcif, Cif}
use Rattle.command_words.specs.declared.job.Job.TheVariants.{Replay, History, Check, Decode, Make, Live}
use Rattle.command_words.specs.Options.{Text, are_options, number_given}
use Rattle.command_words.specs.Names.{name, names}
use Rattle.command_words.specs.Asks.{Asks, mtu, ssrc, seq, stamp, seed, ticks, lanes, turns, packet_names, make_names, format_names, live_names}

-- no options: the defaults
replay_alone : Asks (codes "replay" ∷ []) (Replay (record { mtu = 1400; ssrc = 1211250225; seq = 0; stamp = 0 }))
replay_alone = ([], record { whole = refl; formed = refl }, record { mtu = refl; ssrc = refl; seq = refl; stamp = refl })

history_alone : Asks (codes "history" ∷ []) History
history_alone = ([], record { whole = refl; formed = refl })

check_alone : Asks (codes "check" ∷ []) (Check (record { format = Qcif }))
check_alone = ([], record { whole = refl; formed = refl }, refl)

decode_alone : Asks (codes "decode" ∷ []) (Decode (record { format = Cif }))
decode_alone = ([], record { whole = refl; formed = refl }, refl)

make_alone : Asks (codes "make" ∷ []) (Make (record { seed = 1; ticks = 100; lanes = 4 }))
make_alone = ([], record { whole = refl; formed = refl }, record { seed = refl; ticks = refl; lanes = refl })

live_alone : Asks (codes "live" ∷ codes "--lanes=a" ∷ codes "--chair=b" ∷ []) (Live (record {
  lanes = codes "a" ∷ [];
  chair = codes "b";
  packets = record { mtu = 1400; ssrc = 1211250225; seq = 0; stamp = 0 };
  turns = 1099511627776;
}))
live_alone = (
  _,
  record { whole = refl; formed = refl },
  record { lanes = refl; chair = refl; packets = record { mtu = refl; ssrc = refl; seq = refl; stamp = refl }; turns = refl },
)

-- a name may hold `=` and `-`, a lane's no comma, and two lanes may have one name
live_in_any_order : Asks (codes "live" ∷ codes "--turns=1" ∷ codes "--chair=a=b,c" ∷ codes "--seq=9" ∷ codes "--lanes=x,--y,x" ∷ []) (Live (record {
  lanes = codes "x" ∷ codes "--y" ∷ codes "x" ∷ [];
  chair = codes "a=b,c";
  packets = record { mtu = 1400; ssrc = 1211250225; seq = 9; stamp = 0 };
  turns = 1;
}))
live_in_any_order = (
  _,
  record { whole = refl; formed = refl },
  record { lanes = refl; chair = refl; packets = record { mtu = refl; ssrc = refl; seq = refl; stamp = refl }; turns = refl },
)

-- no name is empty, there are one to sixteen lanes, and each name has to be given
no_names : List (Option (List Text))
no_names = names (codes "--lanes=" ∷ []) (codes "lanes") ∷ names (codes "--lanes=a," ∷ []) (codes "lanes")
    ∷ names (codes "--lanes=,a" ∷ []) (codes "lanes") ∷ names (codes "--lanes=a,,c" ∷ []) (codes "lanes")
    ∷ names (codes "--lanes=1,2,3,4,5,6,7,8,9,10,11,12,13,14,15,16,17" ∷ []) (codes "lanes")
    ∷ names (codes "--chair=a" ∷ []) (codes "lanes") ∷ []

no_names_are : no_names ≡ None ∷ None ∷ None ∷ None ∷ None ∷ None ∷ []
unfolding no_names
no_names_are = refl

no_chairs : List (Option Text)
no_chairs = name (codes "--chair=" ∷ []) (codes "chair") ∷ name (codes "--lanes=a" ∷ []) (codes "chair") ∷ []

no_chairs_are : no_chairs ≡ None ∷ None ∷ []
unfolding no_chairs
no_chairs_are = refl

-- in any order
in_any_order : Asks (codes "replay" ∷ codes "--stamp=4294967295" ∷ codes "--mtu=1000" ∷ codes "--seq=65535" ∷ codes "--ssrc=0" ∷ [])
    (Replay (record { mtu = 1000; ssrc = 0; seq = 65535; stamp = 4294967295 }))
in_any_order = (_, record { whole = refl; formed = refl }, record { mtu = refl; ssrc = refl; seq = refl; stamp = refl })

other_format : Asks (codes "check" ∷ codes "--format=cif" ∷ []) (Check (record { format = Cif }))
other_format = (_, record { whole = refl; formed = refl }, refl)

-- zeros may stand before a number, and thirteen digits at most
leading_zeros : number_given (codes "--mtu=0000000001000" ∷ []) mtu ≡ Some 1000
leading_zeros = refl

fourteen_digits : number_given (codes "--mtu=00000000001000" ∷ []) mtu ≡ None
fourteen_digits = refl

-- the ends of each range
bounds : List (Option ℕ)
bounds = number_given (codes "--mtu=999" ∷ []) mtu ∷ number_given (codes "--mtu=9000" ∷ []) mtu ∷ number_given (codes "--mtu=9001" ∷ []) mtu
    ∷ number_given (codes "--ssrc=4294967296" ∷ []) ssrc ∷ number_given (codes "--seq=65536" ∷ []) seq ∷ number_given (codes "--stamp=4294967296" ∷ []) stamp
    ∷ number_given (codes "--seed=4294967295" ∷ []) seed ∷ number_given (codes "--seed=4294967296" ∷ []) seed
    ∷ number_given (codes "--ticks=0" ∷ []) ticks ∷ number_given (codes "--ticks=1000000" ∷ []) ticks ∷ number_given (codes "--ticks=1000001" ∷ []) ticks
    ∷ number_given (codes "--lanes=0" ∷ []) lanes ∷ number_given (codes "--lanes=16" ∷ []) lanes ∷ number_given (codes "--lanes=17" ∷ []) lanes
    ∷ number_given (codes "--turns=0" ∷ []) turns ∷ number_given (codes "--turns=1099511627776" ∷ []) turns
    ∷ number_given (codes "--turns=1099511627777" ∷ []) turns ∷ []

bounds_are : bounds ≡ None ∷ Some 9000 ∷ None ∷ None ∷ None ∷ None ∷ Some 4294967295 ∷ None
    ∷ Some 0 ∷ Some 1000000 ∷ None ∷ None ∷ Some 16 ∷ None ∷ None ∷ Some 1099511627776 ∷ None ∷ []
unfolding bounds
bounds_are = refl

-- signs, blanks, other bases and nothing at all are no numbers
no_numbers : List (Option ℕ)
no_numbers = number_given (codes "--mtu=+1400" ∷ []) mtu ∷ number_given (codes "--mtu=-1400" ∷ []) mtu ∷ number_given (codes "--mtu=" ∷ []) mtu
    ∷ number_given (codes "--mtu= 1400" ∷ []) mtu ∷ number_given (codes "--mtu=0x578" ∷ []) mtu ∷ number_given (codes "--mtu=1,400" ∷ []) mtu ∷ []

no_numbers_are : no_numbers ≡ None ∷ None ∷ None ∷ None ∷ None ∷ None ∷ []
unfolding no_numbers
no_numbers_are = refl

-- words that are no options: a name and its value apart, an option twice, one of another command, no `=`, one dash
no_options : List Bool
no_options = are_options packet_names (codes "--mtu" ∷ codes "1000" ∷ [])
    ∷ are_options packet_names (codes "--seq=1" ∷ codes "--seq=1" ∷ [])
    ∷ are_options packet_names (codes "--format=cif" ∷ [])
    ∷ are_options packet_names (codes "--mtu" ∷ [])
    ∷ are_options packet_names (codes "-mtu=1000" ∷ [])
    ∷ are_options packet_names (codes "--MTU=1000" ∷ [])
    ∷ are_options packet_names (codes "" ∷ [])
    ∷ are_options make_names (codes "--lanes=4" ∷ codes "--seed=1" ∷ codes "--lanes=4" ∷ [])
    ∷ are_options format_names (codes "--mtu=1400" ∷ [])
    ∷ are_options live_names (codes "--lanes=a" ∷ codes "--seed=1" ∷ [])
    ∷ are_options live_names (codes "--chair=a" ∷ codes "--chair=b" ∷ [])
    ∷ are_options packet_names (codes "--mtu=1000" ∷ codes "--seq=1" ∷ [])
    ∷ are_options [] (codes "--format=cif" ∷ [])
    ∷ []

no_options_are : no_options ≡ false ∷ false ∷ false ∷ false ∷ false ∷ false ∷ false ∷ false ∷ false ∷ false ∷ false ∷ true ∷ false ∷ []
unfolding no_options
no_options_are = refl
