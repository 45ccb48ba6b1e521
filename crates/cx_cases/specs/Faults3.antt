-- Texts, each with its first fault.
use Rattle.std.specs.Prelude.{ℕ, List, codes}

-- line 4 has the fault WrongKind
abbrev pub derived_fault131 : List ℕ
derived_fault131 = codes "cxthread 1\nmutex m 0\nmain\nlock_shared m\nend\n"

-- line 5 has the fault BadOrder
abbrev pub derived_fault135 : List ℕ
derived_fault135 = codes "cxthread 1\nstop st\ncallback k st deregister k\nmain\nderegister k\nend\n"

-- line 8 has the fault LatchOver
abbrev pub derived_fault139 : List ℕ
derived_fault139 = codes "cxthread 1\nthread a\nlatch l 1\nbody a\narrive_and_wait l\nend\nmain\narrive_and_wait l\nend\n"

-- line 4 has the fault LatchOver
abbrev pub derived_fault141 : List ℕ
derived_fault141 = codes "cxthread 1\nlatch l 1\nmain\ncount_down l 2\nend\n"

-- line 4 has the fault OutOfRange
abbrev pub derived_fault143 : List ℕ
derived_fault143 = codes "cxthread 1\nsemaphore q 0 1\nmain\nrelease q 65536\nend\n"

-- line 4 has the fault OutOfRange
abbrev pub derived_fault145 : List ℕ
derived_fault145 = codes "cxthread 1\nbarrier b 1\nmain\narrive b 0\nend\n"

-- line 4 has the fault OutOfRange
abbrev pub derived_fault147 : List ℕ
derived_fault147 = codes "cxthread 1\nonce o\nmain\ncall_once o throw 4294967296\nend\n"

-- line 4 has the fault BadWord
abbrev pub derived_fault149 : List ℕ
derived_fault149 = codes "cxthread 1\nonce o\nmain\ncall_once o maybe\nend\n"

-- line 5 has the fault WrongKind
abbrev pub derived_fault151 : List ℕ
derived_fault151 = codes "cxthread 1\ncondition c\nrecursive r\nmain\nwait c r\nend\n"

-- line 5 has the fault WrongKind
abbrev pub derived_fault153 : List ℕ
derived_fault153 = codes "cxthread 1\ncondition c\nshared s\nmain\nwait_pred c s 0 = 1\nend\n"

-- line 5 has the fault OutOfRange
abbrev pub derived_fault155 : List ℕ
derived_fault155 = codes "cxthread 1\ncondition c\nmutex m 1\nmain\nwait_pred c m 1 = 1\nend\n"

-- line 5 has the fault UnknownName
abbrev pub derived_fault157 : List ℕ
derived_fault157 = codes "cxthread 1\ncondition c\nmutex m 1\nmain\nwait_pred zz c 0 = 1\nend\n"

-- line 6 has the fault WrongKind
abbrev pub derived_fault159 : List ℕ
derived_fault159 = codes "cxthread 1\ncondition c\nmutex m 1\nthread a\nmain\nwait_stop c m a 0 = 1\nend\n"

-- line 65 has the fault TooMany
abbrev pub derived_many_jthread : List ℕ
derived_many_jthread = codes "cxthread 1\njthread u0\njthread u1\njthread u2\njthread u3\njthread u4\njthread u5\njthread u6\njthread u7\njthread u8\njthread u9\njthread u10\njthread u11\njthread u12\njthread u13\njthread u14\njthread u15\njthread u16\njthread u17\njthread u18\njthread u19\njthread u20\njthread u21\njthread u22\njthread u23\njthread u24\njthread u25\njthread u26\njthread u27\njthread u28\njthread u29\njthread u30\njthread u31\njthread u32\njthread u33\njthread u34\njthread u35\njthread u36\njthread u37\njthread u38\njthread u39\njthread u40\njthread u41\njthread u42\njthread u43\njthread u44\njthread u45\njthread u46\njthread u47\njthread u48\njthread u49\njthread u50\njthread u51\njthread u52\njthread u53\njthread u54\njthread u55\njthread u56\njthread u57\njthread u58\njthread u59\njthread u60\njthread u61\njthread u62\njthread u0\nmain\nend\n"

-- line 1 has the fault BadVersion
abbrev pub fault_0003 : List ℕ
fault_0003 = codes "cxthrea"

-- line 5 has the fault BadWord
abbrev pub fault_0005 : List ℕ
fault_0005 = codes "cxthread 1\njthread w\nbody w\nstop_possible w\nspurious\nmain\nstart w\njoin main\nstop_requested w\nrequest_stop w\njoin w\nend\n"

-- line 18 has the fault UnknownName
abbrev pub fault_0006 : List ℕ
fault_0006 = codes "cxthread 1\nthread a\nstop st main\ncondition c0\nmutex m0 3\nbody a\nlock m0\nadd m0 1 1\nnotify_all c0\nunlock m0\nlock m0\nwait_stop c0 m0 st 1 > 2\nunlock m0\ndrop st\nnotify_all c0\nlock m0\nadd m0 1 1\nnotify_one spurious\nunlock m0\nend\nmain\nnotify_all c0\ntry_lock m0\nwait_stop c0 m0 st 1 = 0\nunlock m0\nrequest_stop st\nend\n"

-- line 6 has the fault UnknownName
abbrev pub fault_0010 : List ℕ
fault_0010 = codes "cxthread 1\nthread d0\nsemaphore spurious 1 3\nsemaphore q1 1 3\nbody d0\nacquire q0\nrelease q1 1\nstart d0\nrelease q1 1\nend\nmain\nstart d0\nrelease q0 1\nacquire q1\njoin d0\nend\n"

-- line 19 has the fault WrongKind
abbrev pub fault_0019 : List ℕ
fault_0019 = codes "cxthread 1\nthread d0\nsemaphore q 0 3\nsemaphore q1 1 1\nsemaphore q2 1 2\nbody d0\ntry_acquire q2\nrelease q 1\nacquire q1\nend\nmain\nstart d0\nrelease q2 2\nacquire q\nrelease q1 1\nrelease q 0\nacquire q2\nrelease q2 1\ninvoke q1\njoin d0\nend\n"

-- line 9 has the fault WrongKind
abbrev pub fault_0020 : List ℕ
fault_0020 = codes "cxthread 1\nthread b0\nshared s\nbody b0\nlock_shared s\nunlock_shared s\nend\nmain\narrive_and_drop b0\nstart b0\nlock_shared s\ntry_lock_shared s\nunlock_shared s\njoin b0\nend\n"
