-- The model: the names of operations.
use Rattle.std.specs.Prelude.{ℕ, List, [], ◌∷◌, codes, slice_index_or}

-- The operations by their numbers, as io_uring_enter(2) and linux/io_uring.h name them, without the prefix IORING_OP_.
unfoldable pub opcode_names : List (List ℕ)
opcode_names =
    codes "NOP" ∷ codes "READV" ∷ codes "WRITEV" ∷ codes "FSYNC" ∷ codes "READ_FIXED" ∷ codes "WRITE_FIXED" ∷ codes "POLL_ADD" ∷ codes "POLL_REMOVE" ∷
    codes "SYNC_FILE_RANGE" ∷ codes "SENDMSG" ∷ codes "RECVMSG" ∷ codes "TIMEOUT" ∷ codes "TIMEOUT_REMOVE" ∷ codes "ACCEPT" ∷ codes "ASYNC_CANCEL" ∷
    codes "LINK_TIMEOUT" ∷ codes "CONNECT" ∷ codes "FALLOCATE" ∷ codes "OPENAT" ∷ codes "CLOSE" ∷ codes "FILES_UPDATE" ∷ codes "STATX" ∷
    codes "READ" ∷ codes "WRITE" ∷ codes "FADVISE" ∷ codes "MADVISE" ∷ codes "SEND" ∷ codes "RECV" ∷ codes "OPENAT2" ∷ codes "EPOLL_CTL" ∷
    codes "SPLICE" ∷ codes "PROVIDE_BUFFERS" ∷ codes "REMOVE_BUFFERS" ∷ codes "TEE" ∷ codes "SHUTDOWN" ∷ codes "RENAMEAT" ∷ codes "UNLINKAT" ∷
    codes "MKDIRAT" ∷ codes "SYMLINKAT" ∷ codes "LINKAT" ∷ codes "MSG_RING" ∷ codes "FSETXATTR" ∷ codes "SETXATTR" ∷ codes "FGETXATTR" ∷
    codes "GETXATTR" ∷ codes "SOCKET" ∷ codes "URING_CMD" ∷ codes "SEND_ZC" ∷ codes "SENDMSG_ZC" ∷ codes "READ_MULTISHOT" ∷ codes "WAITID" ∷
    codes "FUTEX_WAIT" ∷ codes "FUTEX_WAKE" ∷ codes "FUTEX_WAITV" ∷ codes "FIXED_FD_INSTALL" ∷ codes "FTRUNCATE" ∷ codes "BIND" ∷ codes "LISTEN" ∷
    codes "RECV_ZC" ∷ codes "EPOLL_WAIT" ∷ codes "READV_FIXED" ∷ codes "WRITEV_FIXED" ∷ codes "PIPE" ∷ []

-- The name of an operation; nothing for a number that none has.
unfoldable pub opcode_name : ℕ → List ℕ
opcode_name opcode = slice_index_or opcode_names opcode []
