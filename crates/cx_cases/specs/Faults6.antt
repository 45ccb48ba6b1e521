-- Texts, each with its first fault.
use Rattle.std.specs.Prelude.{ℕ, List, [], ◌∷◌, ◌++◌, codes}

-- line 14 has the fault BadWord
abbrev pub fault_0129 : List ℕ
fault_0129 = codes "cxthread 1\nthread b0\nsemaphore return 3 3\nbody b0\nacquire return\nrelease return 2\nacquire return\nacquire return\nend\nmain\nstart b0\ntry_acquire return\nacquire return\nrelease retu"

-- line 9 has the fault TooLong
abbrev pub fault_0130 : List ℕ
fault_0130 = codes "cxthread 1" ++ 13 ∷ [] ++ codes "\njthread w" ++ 13 ∷ [] ++ codes "\nbody w" ++ 13 ∷ [] ++ codes "\nrequest_stop w" ++ 13 ∷ [] ++ codes "\nstop_possible w" ++ 13 ∷ [] ++ codes "\nend" ++ 13 ∷ [] ++ codes "\nmain" ++ 13 ∷ [] ++ codes "\nstart w" ++ 13 ∷ [] ++ codes "\nstop_requested w" ++ 9 ∷ [] ++ 9 ∷ [] ++ 9 ∷ [] ++ 9 ∷ [] ++ 9 ∷ [] ++ 9 ∷ [] ++ 9 ∷ [] ++ 9 ∷ [] ++ 9 ∷ [] ++ 9 ∷ [] ++ 9 ∷ [] ++ 9 ∷ [] ++ 9 ∷ [] ++ 9 ∷ [] ++ 9 ∷ [] ++ 9 ∷ [] ++ 9 ∷ [] ++ 9 ∷ [] ++ 9 ∷ [] ++ 9 ∷ [] ++ 9 ∷ [] ++ 9 ∷ [] ++ 9 ∷ [] ++ 9 ∷ [] ++ 9 ∷ [] ++ 9 ∷ [] ++ 9 ∷ [] ++ 9 ∷ [] ++ 9 ∷ [] ++ 9 ∷ [] ++ 9 ∷ [] ++ 9 ∷ [] ++ 9 ∷ [] ++ 9 ∷ [] ++ 9 ∷ [] ++ 9 ∷ [] ++ 9 ∷ [] ++ 9 ∷ [] ++ 9 ∷ [] ++ 9 ∷ [] ++ 9 ∷ [] ++ 9 ∷ [] ++ 9 ∷ [] ++ 9 ∷ [] ++ 9 ∷ [] ++ 9 ∷ [] ++ 9 ∷ [] ++ 9 ∷ [] ++ 9 ∷ [] ++ 9 ∷ [] ++ 9 ∷ [] ++ 9 ∷ [] ++ 9 ∷ [] ++ 9 ∷ [] ++ 9 ∷ [] ++ 9 ∷ [] ++ 9 ∷ [] ++ 9 ∷ [] ++ 9 ∷ [] ++ 9 ∷ [] ++ 9 ∷ [] ++ 9 ∷ [] ++ 9 ∷ [] ++ 9 ∷ [] ++ 9 ∷ [] ++ 9 ∷ [] ++ 9 ∷ [] ++ 9 ∷ [] ++ 9 ∷ [] ++ 9 ∷ [] ++ 9 ∷ [] ++ 9 ∷ [] ++ 9 ∷ [] ++ 9 ∷ [] ++ 9 ∷ [] ++ 9 ∷ [] ++ 9 ∷ [] ++ 9 ∷ [] ++ 9 ∷ [] ++ 9 ∷ [] ++ 9 ∷ [] ++ 9 ∷ [] ++ 9 ∷ [] ++ 9 ∷ [] ++ 9 ∷ [] ++ 9 ∷ [] ++ 9 ∷ [] ++ 9 ∷ [] ++ 9 ∷ [] ++ 9 ∷ [] ++ 9 ∷ [] ++ 9 ∷ [] ++ 9 ∷ [] ++ 9 ∷ [] ++ 9 ∷ [] ++ 9 ∷ [] ++ 9 ∷ [] ++ 9 ∷ [] ++ 9 ∷ [] ++ 9 ∷ [] ++ 9 ∷ [] ++ 9 ∷ [] ++ 9 ∷ [] ++ 9 ∷ [] ++ 9 ∷ [] ++ 9 ∷ [] ++ 13 ∷ [] ++ codes "\nstop_requested w" ++ 13 ∷ [] ++ codes "\njoin w" ++ 13 ∷ [] ++ codes "\nrequest_stop w" ++ 13 ∷ [] ++ codes "\nrequest_stop w" ++ 13 ∷ [] ++ codes "\njoin w" ++ 13 ∷ [] ++ codes "\nend" ++ 13 ∷ [] ++ codes "\n"

-- line 5 has the fault BadWord
abbrev pub fault_0134 : List ℕ
fault_0134 = codes "cxthread 1\nthread z_\nthread d\njthread w0\nlock_shared w0\nlatch l 1\nbody z_\ntry_wait l\nend\nbody d\ntry_wait l\nend\nbody w0\narrive_and_wait l\ntry_wait l\nend\nmain\nstart z_\nstart w0\nstart d\njoin w0\nwait l\ncount_down l 0\njoin d\njoin z_\nend\n"

-- line 33 has the fault UnknownName
abbrev pub fault_0135 : List ℕ
fault_0135 = codes "cxthread 1\nthread e\nthread d0\nrecursive r0\nbarrier spurious 1\nbody e\ntry_lock r0\narrive_and_wait spurious\narrive spurious 4096\nwait spurious\ntry_lock r0\narrive spurious 1\nwait spurious\narrive_and_wait spurious\nlock r0\nlock r0\ntry_lock r0\nunlock r0\nlock r0\ntry_lock r0\nlock r0\nunlock r0\nend\nbody d0\nend\nmain\nstart e\njoin d0\nstart d0\narrive spurious 2\njoin d0\njoin e\nregister zz\njoin d0\nend\n"

-- line 26 has the fault NotAscii
abbrev pub fault_0136 : List ℕ
fault_0136 = codes "cxthread 1\nthread a\nmutex m 1\nmutex m1 8\njthread nn3\nbody a\nlock_all m m1\nunlock m\nunlock m1\nlock_all m m1\nadd m 0 1\nunlock m1\nunlock m\nend\nmain\nlock_all m m1\nunlock m1\nunlock m\nunlock m\nlock_all m m1\nstart a\nunlock m1\nunlock m\njoin a\ntry_lock_all m m1\nadd m " ++ 11 ∷ [] ++ codes "0 1\nunlock m\nunlock m1\nend\n"

-- line 4 has the fault BadWord
abbrev pub fault_0139 : List ℕ
fault_0139 = codes "cxthread 1\njthread j0\ncondition c\nmut"

-- line 14 has the fault BadWord
abbrev pub fault_0140 : List ℕ
fault_0140 = codes "cxthread 1\njthread j\nmutex m 1\nbody j\nlock m\nunlock m\ntry_lock m\nunlock m\ntry_lock m\nset m 0 9223372036854775806\nset m 0 5\nunlock m\nlock m\nmain\nstart j\nstop_requested j\nlock m\nadd m 0 1\nget m 0\nadd m 0 1\nunlock m\njoin j\nend # # # # # # # # # # # # # # # # # # # # # # # # # # # # # # # # # # # # # # # # # # # # # # # # # # # # # # # # # #\n"

-- line 3 has the fault BadWord
abbrev pub fault_0141 : List ℕ
fault_0141 = codes "cxthread 1\nthread b0\nacquire q0\nsemaphore q0 1 1\nbarrier b1 2 release q0 0\nbody b0\narrive_and_wait b1\narrive_and_wait b1\narrive b1 4096\nwait b1\narrive b1 1\nend\nmain\nstart b0\narrive_and_wait b1\narrive_and_wait b1\narrive_and_drop b1\nwait b1\njoin b0\nend\n"

-- line 4 has the fault Twice
abbrev pub fault_0145 : List ℕ
fault_0145 = codes "cxthread 1\nthread a0\nthread q0\nsemaphore q0 1 2\nbarrier b0 2 release q0 0\nbody a0\narrive b0 1\nwait b0\narrive_and_drop b0\ntry_acquire q0\nend\nmain\nstart a0\narrive_and_wait b0\narrive_and_wait b0\nwait b0\njoin a0\nend\n"

-- line 18 has the fault WrongKind
abbrev pub fault_0149 : List ℕ
fault_0149 = codes "cxthread 1\njthread w\nrecursive r0\nbody w\nlock r0\nunlock r0\nlock r0\ntry_lock r0\nunlock r0\nlock r0\nlock r0\nunlock r0\nend\nmain\nstart w\nrequest_stop w\njoin w\nset_exception w 65536\nlock r0\nlock r0\nunlock r0\ntry_lock r0\nunlock r0\njoin w\nend\n"
